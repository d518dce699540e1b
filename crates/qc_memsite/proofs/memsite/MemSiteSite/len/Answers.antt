use Rattle.std.proofs.Common.{◌≤◌, ap, arith, length, List, ℕ}
use Rattle.qc_site.specs.Image.{bytes_of}
use Rattle.qc_site.proofs.Images.{short_file}
use Rattle.qc_memsite.specs.Bounds.{short_image}
use Rattle.qc_memsite.specs.Laws.{shows_image}
use Rattle.qc_memsite.specs.Shown.{first_by, calls_by, shown_by}
use Rattle.qc_memsite.proofs.memsite.MemSiteSite.len.Goals as goal

pub returns-clause-bound : goal.returns-clause-bound
returns-clause-bound c =
    let kept = c.args.self.now.kept in
    let first = first_by kept in
    let short : length (bytes_of c.args.file (shown_by kept)) ≤ 4611686018427387904 = short_file c.args.file (shown_by kept) (short_image first (calls_by kept) kept.first_short kept.ends (shown_by kept) (shows_image first (calls_by kept))) in
    omega (arith, ap (λ (l : List ℕ). length l) c.bytes.ensures)
