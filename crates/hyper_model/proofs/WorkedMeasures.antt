-- Some measures, described.
use Rattle.std.proofs.Common.{◌≡◌, false, None, Some, codes, refl}
use Rattle.hyper_model.specs.declared.kinds.Measure.TheVariants as measure
use Rattle.hyper_model.specs.declared.kinds.Subject.TheVariants as subject
use Rattle.hyper_model.specs.declared.parts.PlanParts.{PlanParts}
use Rattle.hyper_model.specs.Measures.{word_of, subject_of, scale_of, is_without, measure_named}

-- the mean travel time to the calls of the district of the second unit
district_word : word_of (measure.TravelDistrict 1) ≡ codes "travel-district"
district_word = refl

district_subject : subject_of (measure.TravelDistrict 1) ≡ subject.District 1
district_subject = refl

district_scale : scale_of (measure.TravelDistrict 1) ≡ 1000
district_scale = refl

-- the share of the calls that the first unit answers at the third atom
dispatch_subject : subject_of (measure.Dispatch 0 2) ≡ subject.UnitAndAtom 0 2
dispatch_subject = refl

dispatch_scale : scale_of (measure.Dispatch 0 2) ≡ 1000000
dispatch_scale = refl

-- the share of the calls that wait is no time, and the mean time that a call waits is one
delay_scale : scale_of measure.Delay ≡ 1000000
delay_scale = refl

wait_scale : scale_of measure.Wait ≡ 1000
wait_scale = refl

-- a measure of a unit says nothing of its district
unit_with : (p : PlanParts) → is_without p (measure.InterdistrictUnit 0) ≡ false
unit_with p = refl

-- the measures of the region are found by their words, and no other is
wait_named : measure_named (codes "wait") ≡ Some measure.Wait
unfolding measure_named
wait_named = refl

workload_not_named : measure_named (codes "workload") ≡ None
unfolding measure_named
workload_not_named = refl

empty_not_named : measure_named (codes "") ≡ None
unfolding measure_named
empty_not_named = refl
