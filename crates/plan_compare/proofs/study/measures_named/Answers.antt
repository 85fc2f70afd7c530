use Rattle.std.proofs.Common.{◌≡◌, ◌<◌, ◌+◌, ◌++◌, ◌∷◌, ◌∙◌, sym, ap, inr, [], map, length, get_or, arith, string_bytes, below_more, true, Some, None}
use Rattle.std.specs.Prelude.{option_map, is_some}
use Rattle.std.proofs.lemmas.List.{get_or-map, length-map, length_push}
use Rattle.std.proofs.lemmas.List.Elements.{All-push}
use Rattle.hyper_model.specs.Measures.{is_of_region, measure_named}
use Rattle.plan_compare.specs.declared.refusal.StudyRefusal.TheVariants as refusal
use Rattle.plan_compare.proofs.FirstPlaces.{position_is, position_none, filter_map_next}
use Rattle.hyper_model.proofs.MeasureValues.{of_region_measure}
use Rattle.plan_compare.proofs.study.measures_named.Goals as goal

pub returns-in_default-clause-unknown : goal.returns-in_default-clause-unknown
returns-in_default-clause-unknown c =
    let texts = map string_bytes c.args.words.now in
    let place = c.loop-place.place in
    let word = c.index-words-place.result in
    let inside : place < length texts = omega (arith, length-map c.args.words.now string_bytes, c.loop-place-test.true) in
    let at : get_or texts place [] ≡ string_bytes word =
    get_or-map string_bytes c.args.words.now place word [] c.loop-place-test.true ∙ ap string_bytes (sym c.index-words-place.is) in
    let none : measure_named (get_or texts place []) ≡ None =
    ap measure_named (at ∙ sym c.as_str.ensures.value) ∙ sym c.measure_named.ensures ∙ c.in_default.is in
    inr (ap (option_map (λ k. refusal.UnknownMeasure (k + 1))) (position_is measure_named texts [] place inside c.loop-place.invariant.known none))

pub loop-place-preserved : goal.loop-place-preserved
loop-place-preserved c =
    let texts = map string_bytes c.args.words.now in
    let place = c.loop-place.place in
    let word = c.index-words-place.result in
    let inside : place < length texts = omega (arith, length-map c.args.words.now string_bytes, c.loop-place-test.true) in
    let at : get_or texts place [] ≡ string_bytes word =
    get_or-map string_bytes c.args.words.now place word [] c.loop-place-test.true ∙ ap string_bytes (sym c.index-words-place.is) in
    let some : measure_named (get_or texts place []) ≡ Some c.in-Some.measure =
    ap measure_named (at ∙ sym c.as_str.ensures.value) ∙ sym c.measure_named.ensures ∙ c.in-Some.is in
    let items : c.extend_from_slice.new.self.items ≡ c.loop-place.measures.items ++ c.in-Some.measure ∷ [] = c.in_ok-extend_from_slice.ensures.items in
    record {
      known = below_more _ _ c.loop-place.invariant.known (ap is_some some);
      measures = items ∙ ap (λ ys. ys ++ c.in-Some.measure ∷ []) c.loop-place.invariant.measures
          ∙ sym (filter_map_next measure_named texts [] place c.in-Some.measure inside some);
      number = ap length items ∙ omega (arith, length_push c.loop-place.measures.items c.in-Some.measure);
      region = rw items (All-push (λ m. is_of_region m ≡ true) _ _ c.loop-place.invariant.region (of_region_measure _ c.in-Some.measure some));
    }

pub returns-clause-known : goal.returns-clause-known
returns-clause-known c =
    ap (option_map (λ k. refusal.UnknownMeasure (k + 1)))
    (position_none measure_named (map string_bytes c.args.words.now) [] (λ k h. c.loop-place.invariant.known k (omega (arith, length-map c.args.words.now string_bytes))))
