use Rattle.qc_worker.proofs.Reading.{lines-read, row-read}
use Rattle.qc_worker.proofs.laws.a_row_is_put_where_its_record_is_read.Goals as goal

pub returns : goal.returns
returns c = record {
  lines = λ clerk r key old new log before groups rows was now waits spells goes. lines-read clerk r key old new log before groups waits rows was now spells goes;
  row = λ clerk r key old new log before groups rows was now waits spells goes. row-read clerk r key old new log before groups waits rows was now spells goes;
}
