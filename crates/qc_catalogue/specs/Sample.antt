-- The sample catalogue (docs/FORMATS.md, "Catalogue"; the file `examples/orders.toml`), its parts, and what it says.
use Rattle.std.specs.Prelude.{ℕ, List, [], ◌∷◌, ◌++◌, true, false, Some, None, codes}
use Rattle.qc_catalogue.specs.declared.catalogue.Catalogue.{Catalogue}
use Rattle.qc_catalogue.specs.declared.catalogue.Component.{Component}
use Rattle.qc_catalogue.specs.declared.catalogue.Exception.{Exception}
use Rattle.qc_catalogue.specs.declared.catalogue.Opening.{Opening}
use Rattle.qc_catalogue.specs.declared.catalogue.Resource.{Resource}
use Rattle.qc_script.specs.declared.names.Param.{Param}
use Rattle.qc_script.specs.declared.names.ParamKind.TheVariants.{Text, Whole}
use Rattle.qc_script.specs.declared.script.Script.{Script}
use Rattle.qc_script.specs.declared.step.Cell.{Cell}
use Rattle.qc_script.specs.declared.step.Compare.TheVariants.{AtLeast}
use Rattle.qc_script.specs.declared.step.SignedTerm.{SignedTerm}
use Rattle.qc_script.specs.declared.step.Key.TheVariants.{Param as Given, Constant}
use Rattle.qc_script.specs.declared.step.Step.{Step}
use Rattle.qc_script.specs.declared.step.Step.TheVariants.{Need, Add, Sub, Grow, Retract, Abort}
use Rattle.qc_script.specs.declared.step.Term.{Term}
use Rattle.qc_script.specs.declared.step.Term.TheVariants.{Number, Param as Taken, Row as AmountAt}

-- the text, part by part

abbrev pub sample_tables : List ℕ
sample_tables = codes "[table.stock]\nbolt = 10\nnut = 3\n[table.sold]\n[table.lost]\n[table.finals]\n\n"

abbrev pub sample_till : List ℕ
sample_till = codes "[resource.till]\nmode = \"early\"\nphases = 7\nlow = 0\nhigh = 110\nrows = { drawer = 100 }\n\n"

abbrev pub sample_post : List ℕ
sample_post = codes "[resource.post]\nmode = \"late\"\nphases = 7\nrows = { letters = 0 }\n\n"

abbrev pub sample_app : List ℕ
sample_app = codes "[application.Orders]\nid = \"6f1c2f9e-0b7e-4c52-9d0a-1f2e3d4c5b01\"\n\n"

abbrev pub sample_class : List ℕ
sample_class = codes "[application.Orders.exception.OrderLast]\nclass = \"6f1c2f9e-0b7e-4c52-9d0a-1f2e3d4c5b02\"\nfinal = 'add finals[\"count\"] 1'\n[application.Orders.exception.OrderLast.method.Place]\nparams = [\"in item text\", \"in qty whole\"]\nscript = \"add lost[item] qty\"\n[application.Orders.exception.OrderLast.method.Notify]\nparams = [\"in n whole\"]\nscript = \"\"\n\n"

-- the component Order, by the second line of the script of Place
abbrev pub order_with : List ℕ → List ℕ
order_with line = codes "[application.Orders.component.Order]\nclass = \"6f1c2f9e-0b7e-4c52-9d0a-1f2e3d4c5b03\"\nexception = \"OrderLast\"\n[application.Orders.component.Order.method.Place]\nparams = [\"in item text\", \"in qty whole\"]\nscript = '''\nneed stock[item] >= qty\n" ++ line ++ codes "add sold[item] qty\nout till[\"drawer\"] += qty\n'''\n[application.Orders.component.Order.method.Notify]\nparams = [\"in n whole\"]\nscript = 'out post[\"letters\"] += n'\n\n"

abbrev pub sample_plain : List ℕ
sample_plain = codes "[application.Orders.component.Plain]\nclass = \"6f1c2f9e-0b7e-4c52-9d0a-1f2e3d4c5b04\"\n[application.Orders.component.Plain.method.Take]\nparams = [\"in item text\", \"in qty whole\"]\nscript = '''\nneed stock[item] >= qty\nsub stock[item] qty\n'''\n[application.Orders.component.Plain.method.Undo]\nparams = [\"in n whole\"]\nscript = '''\nout till[\"drawer\"] += n\nretract till\nout till[\"drawer\"] += 1\n'''\n[application.Orders.component.Plain.method.Twice]\nparams = []\nscript = '''\nout post[\"letters\"] += 1\nretract post\nretract post\n'''\n[application.Orders.component.Plain.method.Doom]\nparams = []\nscript = \"abort\"\n"

abbrev pub sample_with : List ℕ → List ℕ
sample_with line = sample_tables ++ sample_till ++ sample_post ++ sample_app ++ sample_class ++ order_with line ++ sample_plain

abbrev pub sample : List ℕ
sample = sample_with (codes "sub stock[item] qty\n")

-- what it says

abbrev pub said_tables : List Opening
said_tables =
    record { name = codes "finals"; rows = [] }
    ∷ record { name = codes "lost"; rows = [] }
    ∷ record { name = codes "sold"; rows = [] }
    ∷ record { name = codes "stock"; rows = (codes "bolt", 10) ∷ (codes "nut", 3) ∷ [] }
    ∷ []

abbrev pub said_resources : List Resource
said_resources =
    record { name = codes "post"; early = false; phases = 7; bounds = None; rows = (codes "letters", 0) ∷ [] }
    ∷ record { name = codes "till"; early = true; phases = 7; bounds = Some (0, 110); rows = (codes "drawer", 100) ∷ [] }
    ∷ []

abbrev pub item_and_qty : List Param
item_and_qty = record { name = codes "item"; kind = Text } ∷ record { name = codes "qty"; kind = Whole } ∷ []

abbrev pub one_whole : List Param
one_whole = record { name = codes "n"; kind = Whole } ∷ []

-- scripts, whose parameters are known by their places

abbrev pub only : Term → List SignedTerm
only term = record { minus = false; term = term } ∷ []

abbrev pub row_of_item : List ℕ → Cell
row_of_item table = record { name = table; key = Given 0 }

abbrev pub row_named : List ℕ → List ℕ → Cell
row_named name key = record { name = name; key = Constant key }

abbrev pub need_stock : Step
need_stock = Need (record { left = only (AmountAt (codes "stock") (Given 0)); compare = AtLeast; right = only (Taken 1) })

abbrev pub take_stock : Step
take_stock = Sub (row_of_item (codes "stock")) (only (Taken 1))

abbrev pub put_letters : Term → Step
put_letters term = Grow (row_named (codes "post") (codes "letters")) (only term)

abbrev pub put_drawer : Term → Step
put_drawer term = Grow (row_named (codes "till") (codes "drawer")) (only term)

abbrev pub said_place : Script
said_place = need_stock ∷ take_stock ∷ Add (row_of_item (codes "sold")) (only (Taken 1)) ∷ put_drawer (Taken 1) ∷ []

abbrev pub said_class : Exception
said_class = record {
  name = codes "OrderLast";
  last = Add (row_named (codes "finals") (codes "count")) (only (Number 1)) ∷ [];
  methods =
      record { name = codes "Notify"; params = one_whole; script = [] }
      ∷ record { name = codes "Place"; params = item_and_qty; script = Add (row_of_item (codes "lost")) (only (Taken 1)) ∷ [] }
      ∷ [];
}

abbrev pub said_order : Component
said_order = record {
  name = codes "Order";
  exception = Some (codes "OrderLast");
  methods =
      record { name = codes "Notify"; params = one_whole; script = put_letters (Taken 0) ∷ [] }
      ∷ record { name = codes "Place"; params = item_and_qty; script = said_place }
      ∷ [];
}

abbrev pub said_plain : Component
said_plain = record {
  name = codes "Plain";
  exception = None;
  methods =
      record { name = codes "Doom"; params = []; script = Abort ∷ [] }
      ∷ record { name = codes "Take"; params = item_and_qty; script = need_stock ∷ take_stock ∷ [] }
      ∷ record { name = codes "Twice"; params = []; script = put_letters (Number 1) ∷ Retract (codes "post") ∷ Retract (codes "post") ∷ [] }
      ∷ record { name = codes "Undo"; params = one_whole; script = put_drawer (Taken 0) ∷ Retract (codes "till") ∷ put_drawer (Number 1) ∷ [] }
      ∷ [];
}

abbrev pub sample_catalogue : Catalogue
sample_catalogue = record {
  tables = said_tables;
  resources = said_resources;
  apps = record { name = codes "Orders"; exceptions = said_class ∷ []; components = said_order ∷ said_plain ∷ [] } ∷ [];
}
