use Rattle.qc_rows.proofs.Opened.{opens-canonical}
use Rattle.qc_rows.proofs.Settling.{settles-amounts, settles-totals, keeps-canonical, keeps-names}
use Rattle.qc_rows.proofs.laws.views_settle_their_rows.Goals as goal

pub returns : goal.returns
returns c = record {
  amounts = settles-amounts;
  totals = settles-totals;
  opened = opens-canonical;
  canonical = keeps-canonical;
  names = keeps-names;
}
