use Rattle.std.proofs.Common.{◌∙◌, ap, map, sym}
use Rattle.std.proofs.lemmas.Simd.{map-map}
use Rattle.csv.specs.Records.{fields_of}
use Rattle.plan_text.specs.Rows.{clean_row}
use Rattle.plan_text.proofs.row_list.rows.Goals as goal

pub returns : goal.returns
returns c = sym (map-map clean_row fields_of c.in_ok-items.items.items) ∙ ap (map clean_row) c.in_ok-items.ensures
