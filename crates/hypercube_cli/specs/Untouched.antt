-- A shelf that no call has touched.
use Rattle.std.specs.Prelude.{◌≡◌, ℕ, List, Option}
use Rattle.outer_world.specs.declared.named_text.NamedText.{NamedText}

-- all that is known of a shelf is as it was
pub record IsUntouched {S : Type 0} (told : S → Option (List NamedText)) (left open_name : S → Option (List ℕ))
    (faults : S → ℕ) (last_fault : S → Option (List ℕ)) (before after : S) : Type 0 where
  pub same_texts : told after ≡ told before
  pub same_left : left after ≡ left before
  pub same_open : open_name after ≡ open_name before
  pub same_count : faults after ≡ faults before
  pub same_fault : last_fault after ≡ last_fault before
