-- What going ahead over nodes says where all that it took for letters are letters.
-- Assumes nothing: these are definitions.
use Rattle.std.specs.Prelude.{ℕ, zero, suc, ◌+◌, ◌-◌, ◌*◌, ◌<◌, ◌≤◌, ◌≡◌, true, length, get_or, take, drop}
use Rattle.rules.specs.Basic.{Bytes}
use Rattle.rules.specs.Name.{name_most, leads, Spelling}
use Rattle.rules.specs.Layout.{Layout}
use Rattle.rules.specs.Reading.{times, name, node}
use Rattle.reader.specs.View.{view, past as whole}
use Rattle.reader.specs.Letters.{letters_from}

-- the name at `at` ends at r: its length is allowed, its first byte may lead, and it is no word
pub record NameTo (s : Bytes) (P : Spelling) (at r : ℕ) : Type 0 where
  pub ends : r ≡ at + 1 + get_or s at 0
  pub least : 1 ≤ get_or s at 0
  pub most : get_or s at 0 ≤ P.longest
  pub lead : leads (get_or s (at + 1) 0) ≡ true
  pub allowed : r ≤ length s → P.allowed (take (get_or s at 0) (drop (at + 1) s)) ≡ true

-- the place after k names from `at` on, by their lengths
unfoldable pub jumped : Bytes → (at k : ℕ) → ℕ
jumped s at zero = at
jumped s at (suc k) = jumped s (at + 1 + get_or s at 0) k

-- k names from `at` on end at r, if what stands in them is letters: all of their bytes but the k lengths
pub record NamesTo (s : Bytes) (P : Spelling) (at k r : ℕ) : Type 0 where
  pub past : at + k ≤ r
  pub near : r ≤ at + (name_most + 1) * k
  pub jumps : r ≡ jumped s at k
  pub few : letters_from s at (r - at) ≤ r - at - k
  pub reads : (u : ℕ) → r ≤ length s → letters_from s at (r - at) ≡ r - at - k → view (times (name P) k u at (drop at s)) ≡ whole r u

-- some nodes that were read from `at` on, where n were to be read: those of `known` that were not met are still to be read at r, if
-- what stands in names is letters: all bytes but the tags and the lengths
pub record Gone {H A : Type 0} (F : Layout H A) (s : Bytes) (at n r met known names : ℕ) : Type 0 where
  pub past : at + (met + names) ≤ r
  pub counts : met ≤ known
  pub bound : known ≤ n + 3 * met
  pub few : letters_from s at (r - at) ≤ r - at - (met + names)
  pub reads : (most used : ℕ) → (0 < met → used + met ≤ most) → r ≤ length s → letters_from s at (r - at) ≡ r - at - (met + names)
      → view (times (node F most most) n used at (drop at s)) ≡ view (times (node F most most) (known - met) (used + met) r (drop r s))
