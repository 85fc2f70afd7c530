use Rattle.std.proofs.Common.{◌<◌, ap}
use Rattle.hyper_model.specs.Grid.{Grid}
use Rattle.hyper_model.proofs.Grids.{sets_cell}
use Rattle.hyper_model.proofs.grid.Table.set.Goals as goal

pub returns-clause-sets : goal.returns-clause-sets
returns-clause-sets c =
    let row : c.args.r < c.self.inside.rows = rw (ap (λ (g : Grid). g.rows) c.self.view_is) c.requires.row in
    let col : c.args.c < c.self.inside.cols = rw (ap (λ (g : Grid). g.cols) c.self.view_is) c.requires.col in
    rw (← c.self.view_is)
    (sets_cell c.self.inside.rows c.self.inside.cols c.args.r c.args.c c.args.value c.self.inside.cells.items row col c.self.invariant.one_each)
