-- Refusals of a day: their numbers and their arguments.
use Rattle.text_lines.specs.RefusalCodes.{of_one, plain}
use Rattle.text_lines.specs.declared.refusal_code.RefusalCode.{RefusalCode}
use Rattle.day_replay.specs.declared.day_refusal.DayRefusal.{DayRefusal}
use Rattle.day_replay.specs.declared.day_refusal.DayRefusal.TheVariants as refusal

-- the number and the arguments by which a refusal is reported
abbrev pub code_of : DayRefusal → RefusalCode
code_of (refusal.DayTooLong bytes) = of_one 90 bytes
code_of (refusal.DayTooMany number) = of_one 91 number
code_of (refusal.DayRecord number) = of_one 92 number
code_of (refusal.DayName number) = of_one 93 number
code_of (refusal.DayOrder number) = of_one 94 number
code_of (refusal.NotBusy number) = of_one 95 number
code_of refusal.NoMemory = plain 0
