-- The folder above a folder.
use Rattle.std.specs.Prelude.{◌≡◌, ◌≢◌, ℕ, ◌<◌, List, ◌∷◌, ◌++◌, length, All, codes}

-- of a folder that is to be made: it stands in another one, in the root, or where the program runs, by a name of its own, with any slashes behind
pub data IsAbove (folder above : List ℕ) : Type 0 where
  in_folder : (name slashes : List ℕ) → All (λ b. b ≢ 47) name → All (λ b. b ≡ 47) slashes → 0 < length name → folder ≡ above ++ (47 ∷ (name ++ slashes)) → 0 < length above → IsAbove folder above
  in_root : (name slashes : List ℕ) → All (λ b. b ≢ 47) name → All (λ b. b ≡ 47) slashes → 0 < length name → folder ≡ 47 ∷ (name ++ slashes) → above ≡ codes "/" → IsAbove folder above
  in_this : (name slashes : List ℕ) → All (λ b. b ≢ 47) name → All (λ b. b ≡ 47) slashes → folder ≡ name ++ slashes → above ≡ codes "." → IsAbove folder above
