use Rattle.std.proofs.Common.{◌≡◌, ◌∙◌, ◌<◌, List, ap, length, take, refl, sym, arith}
use Rattle.std.proofs.lemmas.List.{length-map}
use Rattle.std.proofs.lemmas.Result.{err_from_is_err_and}
use Rattle.hyper_model.specs.declared.parts.Atom.{Atom}
use Rattle.plan_text.proofs.Over.{over-end, over-more}
use Rattle.atom_table.specs.Entries.{atom_names, unit_names}
use Rattle.preference_rules.specs.Drafts.{Draft}
use Rattle.preference_rules.specs.Given.{twice_records_refusal, twice_refusal}
use Rattle.preference_rules.specs.declared.refusal.ListRefusal.TheVariants.{NoMemory}
use Rattle.preference_rules.proofs.DraftSteps.{drafts-taken, drafts_of-none, length-drafts_of, passed_so, refused_so}
use Rattle.preference_rules.proofs.given.read_drafts.Goals as goal

name_count : (atoms : List Atom) → length (atom_names atoms) ≡ length atoms
name_count atoms = length-map atoms (λ (atom : Atom). atom.name)

pub loop-item-init : goal.loop-item-init
loop-item-init c =
    let number = c.len.ensures.number ∙ ap (λ (atoms : List Atom). length atoms) c.atoms.ensures.atoms in
    record {
      drafts = c.in_ok-drafts.ensures
          ∙ drafts_of-none (unit_names c.args.names.now.units) (atom_names c.args.names.now.atoms) c.len.result
          (number ∙ sym (name_count c.args.names.now.atoms));
      so_far = refl;
    }

pub take_record-requires : goal.take_record-requires
take_record-requires c =
    ap (λ (drafts : List Draft). length drafts) c.loop-item.invariant.drafts
    ∙ length-drafts_of (unit_names c.args.names.now.units) (atom_names c.args.names.now.atoms) (take c.loop-item.item-index c.args.records.now)
    ∙ name_count c.args.names.now.atoms

pub returns-in_err-take_record-clause-refusal : goal.returns-in_err-take_record-clause-refusal
returns-in_err-take_record-clause-refusal c =
    let lt : c.loop-item.item-index < length c.args.records.now = omega arith in
    let some : 0 < length (atom_names c.args.names.now.atoms) =
    omega (arith, name_count c.args.names.now.atoms, c.atoms.ensures.number.low) in
    let p = err_from_is_err_and c.from_residual-in_err-take_record.result c.from_residual-in_err-take_record.ensures.1 in
    rw (p.1, p.2) (over-end (twice_refusal (atom_names c.args.names.now.atoms)) c.args.records.now c.loop-item.item-index
    c.item-item.result (twice_records_refusal (atom_names c.args.names.now.atoms) c.args.records.now) c.in_err-take_record.field-0.0 NoMemory
    lt (sym c.item-item.is)
    (refused_so (unit_names c.args.names.now.units) (atom_names c.args.names.now.atoms) (take c.loop-item.item-index c.args.records.now)
    c.loop-item.drafts.items c.item-item.result c.in_err-take_record.field-0.0 NoMemory some c.loop-item.invariant.drafts
    c.in_err-take_record.ensures.refusal)
    c.loop-item.invariant.so_far)

pub loop-item-preserved : goal.loop-item-preserved
loop-item-preserved c =
    let lt : c.loop-item.item-index < length c.args.records.now = omega arith in
    let some : 0 < length (atom_names c.args.names.now.atoms) =
    omega (arith, name_count c.args.names.now.atoms, c.atoms.ensures.number.low) in
    record {
      drafts = drafts-taken (unit_names c.args.names.now.units) (atom_names c.args.names.now.atoms) c.args.records.now
          c.loop-item.item-index c.loop-item.drafts.items c.take_record.new.drafts.items c.item-item.result some lt (sym c.item-item.is)
          c.loop-item.invariant.drafts c.in_ok-take_record.ensures.taken;
      so_far = over-more (twice_refusal (atom_names c.args.names.now.atoms)) c.args.records.now c.loop-item.item-index
          c.item-item.result (twice_records_refusal (atom_names c.args.names.now.atoms) c.args.records.now) lt (sym c.item-item.is)
          (passed_so (unit_names c.args.names.now.units) (atom_names c.args.names.now.atoms) (take c.loop-item.item-index c.args.records.now)
          c.loop-item.drafts.items c.item-item.result some c.loop-item.invariant.drafts c.in_ok-take_record.ensures.refusal)
          c.loop-item.invariant.so_far;
    }

pub returns-clause-most : goal.returns-clause-most
returns-clause-most c =
    let number = ap (λ (drafts : List Draft). length drafts) c.loop-item.invariant.drafts in
    omega (
      arith,
      number,
      length-drafts_of (unit_names c.args.names.now.units) (atom_names c.args.names.now.atoms) (take c.loop-item.item-index c.args.records.now),
      name_count c.args.names.now.atoms,
      c.atoms.ensures.number.high,
    )
