use Rattle.std.proofs.Common.{◌≡◌, ◌∙◌, ◌<◌, [], ap, sym, length, slice_index_or}
use Rattle.std.proofs.lemmas.List.{get_or-map, length-map}
use Rattle.csv.specs.Records as csv
use Rattle.csv.specs.Records.{fields_of}
use Rattle.plan_text.specs.Rows.{clean_row}
use Rattle.plan_text.proofs.CleanedFields.{clean_row-field}
use Rattle.plan_text.proofs.row_list.RowList.field.Goals as goal

pub returns : goal.returns
returns c =
    let shown = rw (← c.self.view_is) at c.requires.row in
    let inside : c.args.row < length c.self.inside.items.items = rw length-map at shown in
    let is : slice_index_or c.args.self.now c.args.row [] ≡ clean_row (fields_of c.index.result.now) =
    rw (← c.self.view_is) (get_or-map (λ (source : csv.Row). clean_row (fields_of source)) c.self.inside.items.items c.args.row c.index.result.now [] inside
    ∙ ap (λ (source : csv.Row). clean_row (fields_of source)) (sym c.index.ensures)) in
    rw is (c.trimmed_at.ensures ∙ clean_row-field (fields_of c.index.result.now) c.args.place (rw is at c.requires.place))
