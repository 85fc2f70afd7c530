use Rattle.hypercube_cli.specs.Commands.{meaning_of}
use Rattle.hypercube_cli.proofs.Endings.{proved_as}
use Rattle.hypercube_cli.proofs.tasks.JobTask.answer.Goals as goal

pub returns-in-Solve-clause-proved : goal.returns-in-Solve-clause-proved
unfolding meaning_of
returns-in-Solve-clause-proved g c = proved_as (g.S.Shelf.told c.args.shelf.now) c.answer.result c.in-Solve.is c.answer.ensures.proved

pub returns-in-Compare-clause-proved : goal.returns-in-Compare-clause-proved
unfolding meaning_of
returns-in-Compare-clause-proved g c = proved_as (g.S.Shelf.told c.args.shelf.now) c.answer-in-Compare.result c.in-Compare.is c.answer-in-Compare.ensures.proved

pub returns-in-Finite-clause-proved : goal.returns-in-Finite-clause-proved
unfolding meaning_of
returns-in-Finite-clause-proved g c = proved_as (g.S.Shelf.told c.args.shelf.now) c.answer-in-Finite.result c.in-Finite.is c.answer-in-Finite.ensures.proved

pub returns-in-Pairs-clause-proved : goal.returns-in-Pairs-clause-proved
unfolding meaning_of
returns-in-Pairs-clause-proved g c = proved_as (g.S.Shelf.told c.args.shelf.now) c.answer-in-Pairs.result c.in-Pairs.is c.answer-in-Pairs.ensures.proved

pub returns-in-Sweep-clause-proved : goal.returns-in-Sweep-clause-proved
unfolding meaning_of
returns-in-Sweep-clause-proved g c = proved_as (g.S.Shelf.told c.args.shelf.now) c.answer-in-Sweep.result c.in-Sweep.is c.answer-in-Sweep.ensures.proved

pub returns-in-Replay-clause-proved : goal.returns-in-Replay-clause-proved
unfolding meaning_of
returns-in-Replay-clause-proved g c = proved_as (g.S.Shelf.told c.args.shelf.now) c.answer-in-Replay.result c.in-Replay.is c.answer-in-Replay.ensures.proved

pub returns-in-Reach-clause-proved : goal.returns-in-Reach-clause-proved
unfolding meaning_of
returns-in-Reach-clause-proved g c = proved_as (g.S.Shelf.told c.args.shelf.now) c.answer-in-Reach.result c.in-Reach.is c.answer-in-Reach.ensures.proved

pub returns-in-Fleet-clause-proved : goal.returns-in-Fleet-clause-proved
unfolding meaning_of
returns-in-Fleet-clause-proved g c = proved_as (g.S.Shelf.told c.args.shelf.now) c.answer-in-Fleet.result c.in-Fleet.is c.answer-in-Fleet.ensures.proved
