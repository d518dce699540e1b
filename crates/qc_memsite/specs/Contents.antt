-- What a content shows.
use Rattle.qc_site.specs.Image.{Image}
use Rattle.qc_memsite.specs.declared.content.Content.{Content}
use Rattle.qc_memsite.specs.Rows.{row_of}

-- as an image
abbrev pub image_of : Content → Image
image_of content = record { journal = content.journal.bytes.items; crm_log = content.crm_log.bytes.items; snap = content.snap.bytes.items; rows = λ r k. row_of content.rows.rows.items r k }
