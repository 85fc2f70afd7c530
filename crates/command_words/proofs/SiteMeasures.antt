-- The measures by which sites are compared are of the region.
use Rattle.std.proofs.Common.{◌≡◌, ℕ, true, List, refl, sym}
use Rattle.std.specs.Prelude.{Option, Some, None, IfSome}
use Rattle.std.specs.Str.{bytes_eq}
use Rattle.hyper_model.specs.Measures.{is_of_region, word_of}
use Rattle.hyper_model.specs.declared.kinds.Measure.{Measure}
use Rattle.hyper_model.proofs.MeasureValues.{found_passes}
use Rattle.command_words.specs.Command.{site_measure, site_measures}

pub of_region : (word : List ℕ) (m : Option Measure) → m ≡ site_measure word → IfSome m (λ k. is_of_region k ≡ true)
of_region word None is = tt
of_region word (Some m) is = found_passes (λ k. bytes_eq word (word_of k)) is_of_region site_measures m refl (sym is)
