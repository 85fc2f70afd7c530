-- Refusals by their numbers, and what each speaks of.
use Rattle.text_lines.specs.RefusalCodes.{of_one, plain}
use Rattle.text_lines.specs.declared.refusal_code.RefusalCode.{RefusalCode}
use Rattle.pair_dispatch.specs.declared.refusal.PairRefusal.{PairRefusal}
use Rattle.pair_dispatch.specs.declared.refusal.PairRefusal.TheVariants as refusal

-- the number and the arguments by which a refusal is reported
abbrev pub code_of : PairRefusal → RefusalCode
code_of refusal.PairLine = plain 82
code_of (refusal.PairUnits count) = of_one 83 count
code_of (refusal.PairGroup atom) = of_one 84 atom
