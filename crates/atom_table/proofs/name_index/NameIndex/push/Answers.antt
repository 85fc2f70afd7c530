use Rattle.std.proofs.Common.{◌≡◌, ℕ, List, [], ◌∷◌, ◌++◌, false}
use Rattle.std.specs.Str.{bytes_eq}
use Rattle.indexmap.specs.IndexSet.{insert_key}
use Rattle.atom_table.specs.Names.{is_among}
use Rattle.atom_table.proofs.name_index.NameIndex.push.Goals as goal

-- a new name goes last
inserted : (old new : List (List ℕ)) (name : List ℕ) → is_among old name ≡ false → new ≡ insert_key bytes_eq old name
    → new ≡ old ++ name ∷ []
inserted old new name fresh is = rw fresh at is

pub returns-clause-ok : goal.returns-clause-ok
returns-clause-ok c =
    let fresh : is_among c.self.inside.names.keys c.args.name ≡ false = cc c.requires in
    let last = inserted c.self.inside.names.keys c.insert.new.self.keys c.args.name fresh c.in_ok-insert.ensures.keys in
    cc last
