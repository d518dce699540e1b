use Rattle.std.proofs.Common.{◌≡◌, ◌-◌, take, map}
use Rattle.qc_memsite.proofs.file.turned_round.Given as goal

abbrev pub invariant-loop-byte : goal.invariant-loop-byte
invariant-loop-byte l = l.turned.items ≡ map (λ b. 255 - b) (take l.byte-index l.bytes)
