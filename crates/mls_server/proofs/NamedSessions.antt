-- The open session of a name, by the entries of the map and by the seats.
use Rattle.std.proofs.Common.{◌≡◌, cond, false, true, Bool, ℕ, is_some, Option, Some, None, List, [], ◌∷◌, ◌++◌, map, refl, ap, ◌∙◌}
use Rattle.std.specs.Map.{lookup}
use Rattle.std.specs.Option.{option_map}
use Rattle.std.proofs.lemmas.Cmp.{nat_list_eq_equiv}
use Rattle.indexmap.specs.IndexMap.{insert_entry}
use Rattle.mls_text.specs.Words.{same_word}
use Rattle.mls_tilepool.specs.Pools.{Pool}
use Rattle.mls_server.specs.Servers.{seat_for}
use Rattle.mls_server.specs.declared.server.OpenSession.{OpenSession}
use Rattle.mls_server.specs.Worlds.{named_in}

module _ (pool : Pool) (name : List ℕ) where
  abbrev id_of : Option OpenSession → Option ℕ
  id_of found = option_map (λ (open_session : OpenSession). open_session.id) found

  id_of-cond : (same : Bool) (found other : Option OpenSession) → id_of (cond same found other) ≡ cond same (id_of found) (id_of other)
  id_of-cond true found other = refl
  id_of-cond false found other = refl

  pub named_in-entries : (entries : List (List ℕ × OpenSession)) → id_of (lookup (same_word name) entries) ≡ named_in (map (seat_for pool) entries) name
  named_in-entries [] = refl
  named_in-entries (entry ∷ entries) =
      id_of-cond (same_word name entry.0) (Some entry.1) (lookup (same_word name) entries)
      ∙ ap (cond (same_word name entry.0) (Some entry.1.id)) (named_in-entries entries)
      ∙ ap (λ (same : Bool). cond same (Some entry.1.id) (named_in (map (seat_for pool) entries) name)) (nat_list_eq_equiv.symm name entry.0)

  none_found : (found : Option OpenSession) → is_some (id_of found) ≡ false → found ≡ None
  none_found None none = refl
  none_found (Some found) none = absurd cc

  -- where no session has the name
  pub lookup-unnamed : (entries : List (List ℕ × OpenSession)) → is_some (named_in (map (seat_for pool) entries) name) ≡ false → lookup (same_word name) entries ≡ None
  lookup-unnamed entries none = none_found (lookup (same_word name) entries) (ap is_some (named_in-entries entries) ∙ none)

  abbrev Inserts : OpenSession → List (List ℕ × OpenSession) → Type 0
  Inserts opened entries = insert_entry same_word entries name opened ≡ entries ++ (name, opened) ∷ []

  -- a session of it goes last
  pub insert_entry-unnamed : (opened : OpenSession) (entries : List (List ℕ × OpenSession)) → lookup (same_word name) entries ≡ None → Inserts opened entries
  insert_entry-unnamed opened [] none = refl
  insert_entry-unnamed opened (entry ∷ entries) none = by (same_word name entry.0) none (insert_entry-unnamed opened entries)
    where
      by :
          (same : Bool) → cond same (Some entry.1) (lookup (same_word name) entries) ≡ None → (lookup (same_word name) entries ≡ None → Inserts opened entries)
          → cond same ((entry.0, opened) ∷ entries) (entry ∷ insert_entry same_word entries name opened) ≡ entry ∷ entries ++ (name, opened) ∷ []
      by true found rest = absurd cc
      by false found rest = ap (λ (others : List (List ℕ × OpenSession)). entry ∷ others) (rest found)
