-- What a site's calls make of it, and the images that the disk rules allow after them.
use Rattle.std.specs.Prelude.{◌≡◌, ◌⊎◌, ℕ, ◌≤◌, List, [], ◌∷◌, length, take, ◌==◌, nat_lt, ◌&&◌, Bool, MatchBool}
use Rattle.qc_site.specs.Image.{Image, bytes_of, with_bytes, with_row}
use Rattle.qc_site.specs.Disk.{written, Torn, OneStep, Cut, FileStep, Images}
use Rattle.qc_memsite.specs.Call.{Call, Wrote, CutTo, Synced, Put}

-- what is shown after a call
abbrev pub after : Call → Image → Image
after (Wrote file at bytes) shown = with_bytes file (written (bytes_of file shown) at bytes) shown
after (CutTo file len) shown = with_bytes file (take len (bytes_of file shown)) shown
after (Synced file) shown = shown
after (Put resource key amount) shown = with_row resource key amount shown

-- what is shown after these calls, the first of them first
abbrev pub shown_after : List Call → Image → Image
shown_after [] shown = shown
shown_after (x ∷ xs) shown = shown_after xs (after x shown)

-- one byte inside the file
abbrev pub is_single : List ℕ → ℕ → List ℕ → Bool
is_single file at bytes = (length bytes == 1) && nat_lt at (length file)

-- a crash after the call may leave c, where it might have left d before it
abbrev pub Leaves : Call → Image → Image → Image → Type 0
Leaves (Wrote file at bytes) shown d c = ((bytes_of file d ≡ bytes_of file shown) × (c ≡ with_bytes file (written (bytes_of file shown) at bytes) d)) ⊎ MatchBool (is_single (bytes_of file shown) at bytes) (FileStep file (OneStep at bytes) d c) (FileStep file (Torn at (length bytes)) d c)
Leaves (CutTo file len) shown d c = FileStep file (Cut len) d c
Leaves (Synced file) shown d c = (c ≡ d) × (bytes_of file c ≡ bytes_of file shown)
Leaves (Put resource key amount) shown d c = c ≡ with_row resource key amount d

-- the images after these calls
abbrev pub images_after : List Call → Image → Images → Images
images_after [] shown images = images
images_after (x ∷ xs) shown images = images_after xs (after x shown) (λ c. (d : Image) × images d × Leaves x shown d c)

-- from a first content on
abbrev pub ImageOf : Image → List Call → Image → Type 0
ImageOf first calls c = images_after calls first (λ d. d ≡ first) c

-- since the moment t
abbrev pub SinceOf : Image → List Call → ℕ → Image → Type 0
SinceOf first calls t c = (k : ℕ) × (t ≤ k) × (k ≤ length calls) × ImageOf first (take k calls) c
