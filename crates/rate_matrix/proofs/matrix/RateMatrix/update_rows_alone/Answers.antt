use Rattle.std.proofs.Common.{arith}
use Rattle.std.proofs.lemmas.List.{with_items_is}
use Rattle.rate_matrix.proofs.MatrixUpdates.{can_update_each, update_all}
use Rattle.rate_matrix.proofs.matrix.RateMatrix.update_rows_alone.Goals as goal

pub update_bands_alone-requires : goal.update_bands_alone-requires
update_bands_alone-requires c =
    let gone = rw (← c.self.view_is) at c.requires.eliminated in
    let enough = rw (← c.self.view_is) at c.requires.parts in
    let zeros = rw (← c.self.view_is) at c.requires.kept in
    record {
      bands = can_update_each _ c.args.parts.now c.self.invariant gone enough zeros _ _ c.deref.ensures.value c.deref_mut.ensures.value;
    }

pub invariant_of-self : goal.invariant_of-self
invariant_of-self c =
    let gone = rw (← c.self.view_is) at c.requires.eliminated in
    let count = c.update_bands_alone.auto.bands in
    (update_all _ c.args.parts.now c.self.invariant gone c.deref.result.now c.deref_mut.result.now c.update_bands_alone.new.bands _
    c.deref.ensures.value c.deref_mut.ensures.value
    (with_items_is c.self.inside.bands c.update_bands_alone.new.bands (omega (arith, count, c.deref_mut.ensures.len)))
    (omega (arith, count)) c.update_bands_alone.ensures).sound

pub returns-clause-entries : goal.returns-clause-entries
returns-clause-entries c i j l _ =
    let gone = rw (← c.self.view_is) at c.requires.eliminated in
    let count = c.update_bands_alone.auto.bands in
    let inside = rw (← c.self.view_is) at l in
    let done = update_all _ c.args.parts.now c.self.invariant gone c.deref.result.now c.deref_mut.result.now c.update_bands_alone.new.bands _
    c.deref.ensures.value c.deref_mut.ensures.value
    (with_items_is c.self.inside.bands c.update_bands_alone.new.bands (omega (arith, count, c.deref_mut.ensures.len)))
    (omega (arith, count)) c.update_bands_alone.ensures in
    rw (← c.self.view_is) (done.entries i j inside)
