use Rattle.qc_rows.proofs.tests.tables_of.Goals as goal

pub make-requires : goal.make-requires
make-requires c = c.lists_stand_in_order.ensures c.args.text.now c.in-Ok.catalogue c.in-Ok.ensures.catalogue
