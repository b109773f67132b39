-- How a name lies in its bytes.
use Rattle.std.proofs.Common.{ℕ, ◌≤◌, List, ◌++◌, length, drop, replicate, IsTrue, sym, ap, ◌∙◌, subst}
use Rattle.std.proofs.Math.Seq.{take-append_seam}
use Rattle.std.proofs.lemmas.List.{drop-replicate}
use Rattle.mls_server.specs.SessionNames.{is_session_name}
use Rattle.mls_server.specs.NameBytes.{padded_name, HoldsName}

-- a word over 32 zeros lies as a padded name
pub HoldsName-over_zeros : (word : List ℕ) → IsTrue (is_session_name word) → length word ≤ 32 → HoldsName (word ++ drop (length word) (replicate 32 0)) (length word)
HoldsName-over_zeros word name within =
    let taken = take-append_seam word (drop (length word) (replicate 32 0)) in
    record {
      name = subst (λ (front : List ℕ). IsTrue (is_session_name front)) (sym taken) name;
      within = within;
      taken = ap length taken;
      zeros = ap padded_name taken ∙ ap (λ (zeros : List ℕ). word ++ zeros) (sym (drop-replicate (length word) 32 0));
    }

pub ruleset kept = (HoldsName-over_zeros, take-append_seam)
