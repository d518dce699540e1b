-- What the sources and sinks in memory have left, and hold.
use Rattle.std.specs.Prelude.{ℕ, List, drop}
use Rattle.qc_memsite.specs.declared.streams.Unread.{Unread}

-- the bytes that weren't taken yet
abbrev pub rest_of : Unread → List ℕ
rest_of unread = drop unread.taken unread.bytes.items
