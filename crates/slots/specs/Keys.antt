-- What a key's sameness and hash keep. Assumes nothing.
--     Laws same hash      same is reflexive, symmetric and transitive, and same keys share their hash
use Rattle.std.specs.Prelude.{◌≡◌, ℕ, Bool, true}

pub record Laws {K : Type 0} (same : K → K → Bool) (hash : K → ℕ) : Type 0 where
  pub reflexive : (x : K) → same x x ≡ true
  pub symmetric : (x y : K) → same x y ≡ true → same y x ≡ true
  pub transitive : (x y z : K) → same x y ≡ true → same y z ≡ true → same x z ≡ true
  pub shared : (x y : K) → same x y ≡ true → hash x ≡ hash y
