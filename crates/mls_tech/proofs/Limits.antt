-- Numbers stay within the limits as planes and types are added.
use Rattle.std.proofs.Common.{◌≡◌, ℕ, ◌+◌, ◌<◌, ◌≤◌, Bool, List, [], ◌∷◌, ◌++◌, length, Ok, arith, length-append}
use Rattle.std.proofs.lemmas.List.Elements.{All-push, All-weaker}
use Rattle.mls_tech.specs.Readings.{Numbered, IsWithinLimits, add_names}
use Rattle.mls_tech.proofs.NameLemmas.{add_names-All}

module _ (is_spelled : List ℕ → Bool) (planes : Numbered) (plane_count : ℕ) (types : Numbered) (type_planes : List ℕ) (within : IsWithinLimits planes plane_count types type_planes)
    (words : List (List ℕ)) (added : Numbered) where
  -- one plane more, with its names
  pub IsWithinLimits-plane : plane_count < 4 → add_names is_spelled plane_count planes words ≡ Ok added → IsWithinLimits added (plane_count + 1) types type_planes
  IsWithinLimits-plane few e =
      record {
        few_planes = omega arith;
        few_types = within.few_types;
        planes_named = add_names-All (λ plane. plane < plane_count + 1) is_spelled plane_count (omega arith) planes words added e
            (All-weaker (λ entry. entry.1 < plane_count) (λ entry. entry.1 < plane_count + 1) (λ entry below. omega arith) planes within.planes_named);
        types_named = within.types_named;
        planes_known = All-weaker (λ plane. plane < plane_count) (λ plane. plane < plane_count + 1) (λ plane below. omega arith) type_planes within.planes_known;
      }

  -- one type more on a plane, with its names
  pub IsWithinLimits-type : (plane : ℕ) → plane < plane_count → length type_planes < 63 → add_names is_spelled (length type_planes + 1) types words ≡ Ok added
      → IsWithinLimits planes plane_count added (type_planes ++ plane ∷ [])
  IsWithinLimits-type plane known few e =
      let more : length (type_planes ++ plane ∷ []) ≡ length type_planes + 1 = length-append type_planes (plane ∷ []) in
      record {
        few_planes = within.few_planes;
        few_types = omega arith;
        planes_named = within.planes_named;
        types_named = add_names-All (λ kind. kind ≤ length (type_planes ++ plane ∷ [])) is_spelled (length type_planes + 1) (omega arith) types words added e
            (All-weaker (λ entry. entry.1 ≤ length type_planes) (λ entry. entry.1 ≤ length (type_planes ++ plane ∷ [])) (λ entry within. omega arith) types within.types_named);
        planes_known = All-push (λ plane. plane < plane_count) type_planes plane within.planes_known known;
      }
