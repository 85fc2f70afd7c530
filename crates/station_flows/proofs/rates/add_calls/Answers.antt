use Rattle.std.proofs.Common.{◌≡◌, ◌+◌, ◌*◌, ◌<◌, refl, ap, ap₂, sym, subst, ◌∙◌, arith}
use Rattle.std.specs.Prelude.{slice_index, slice_set}
use Rattle.std.proofs.lemmas.Option.{get_or_from_slice_get, slice_get_within}
use Rattle.hyper_model.specs.Plans.{atoms, calls_of, no_atom}
use Rattle.station_flows.specs.StateRates.{HasRates, place_of, sent_so_far}
use Rattle.station_flows.proofs.StateRates.{next_not_sent, next_sent, sent_fits}
use Rattle.station_flows.proofs.rates.add_calls.Goals as goal
use Rattle.station_flows.proofs.rates.add_calls.Goals.{in-Some, in_default}

pub overflow_add-sent-in-Some : goal.overflow_add-sent-in-Some
overflow_add-sent-in-Some c =
    let s = c.args.numbers.now in
    let now = c.args.state in
    let j = c.loop-atom.atom in
    let k = c.in-Some.station in
    let same : c.parts.result.now ≡ s.parts = c.parts.ensures.parts ∙ ap (λ f. f.parts) c.fleet-fleet.ensures.fleet in
    let atom : j < atoms s.parts =
    subst (λ p. j < atoms p) same (slice_get_within c.parts.result.now.atoms j c.get.result.now c.get.ensures) in
    let rate : c.get.result.now.rate ≡ calls_of s.parts j =
    ap (λ a. a.rate) (sym (get_or_from_slice_get c.parts.result.now.atoms j c.get.result.now no_atom c.get.ensures))
    ∙ ap (λ p. calls_of p j) same in
    let read : slice_index c.loop-atom.sent (now * c.stations.result + k) ≡ sent_so_far s now j now k =
    ap (λ n. slice_index c.loop-atom.sent (now * n + k)) c.stations.ensures.stations
    ∙ c.loop-atom.invariant.each now k c.requires.state c.in-Some.ensures.some.0 in
    omega (arith, read, rate, sent_fits s c.fleet-fleet.ensures.within now j now k refl atom)

pub loop-atom-preserved : goal.loop-atom-preserved
loop-atom-preserved c =
    let s = c.args.numbers.now in
    let now = c.args.state in
    let j = c.loop-atom.atom in
    let sent = c.loop-atom.sent in
    let same : c.parts.result.now ≡ s.parts = c.parts.ensures.parts ∙ ap (λ f. f.parts) c.fleet-fleet.ensures.fleet in
    elim c.match-first_with_room.branch [
      | in-Some w ↦
          let k = w.in-Some.station in
          let told = w.in-Some.ensures.some in
          let rate : w.get.result.now.rate ≡ calls_of s.parts j =
          ap (λ a. a.rate) (sym (get_or_from_slice_get c.parts.result.now.atoms j w.get.result.now no_atom w.get.ensures))
          ∙ ap (λ p. calls_of p j) same in
          let place : now * w.stations.result + k ≡ place_of s now k =
          ap (λ n. now * n + k) w.stations.ensures.stations in
          let more = slice_index sent (now * w.stations.result + k) + w.get.result.now.rate in
          subst (λ list. HasRates s (sent_so_far s now (j + 1)) list) (sym w.sent-is)
          (subst (λ i. HasRates s (sent_so_far s now (j + 1)) (slice_set sent i more)) (sym place)
          (next_sent s sent now j k more c.requires.state told.0 told.1 c.loop-atom.invariant
          (ap₂ (λ i r. slice_index sent i + r) place rate)))
      | in_default w ↦
          subst (λ list. HasRates s (sent_so_far s now (j + 1)) list) (sym w.sent-is)
          (next_not_sent s sent now j (w.in_default.ensures.none refl) c.loop-atom.invariant)
    ]
