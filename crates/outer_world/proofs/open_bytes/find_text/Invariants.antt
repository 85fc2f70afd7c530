use Rattle.std.proofs.Common.{◌≡◌, drop}
use Rattle.outer_world.specs.Shelf.{text_named}
use Rattle.outer_world.proofs.open_bytes.find_text.Given as goal

abbrev pub invariant-loop-text : goal.invariant-loop-text
invariant-loop-text l = text_named (drop l.text-index l.texts) l.name ≡ text_named l.texts l.name
