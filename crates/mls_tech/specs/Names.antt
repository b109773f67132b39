-- How planes and types are named (Magic Maintainer's Manual 2, "planes" and "types"; the spelling of names is this project's own).
use Rattle.std.specs.Prelude.{ℕ, ◌==◌, Bool, not, ◌||◌, ◌&&◌, List, [], ◌∷◌, codes, nat_eq}
use Rattle.std.specs.List.{list_all, list_any, starts_with}
use Rattle.mls_text.specs.Words.{is_empty, same_word}

-- a byte that is no blank, no line feed and none of `, ~ ( ) / "`. No word of a line has a line feed, so no file is read otherwise for it; but
-- so a name is a word that a line can have
abbrev pub is_name_byte : ℕ → Bool
is_name_byte b = not (b == 32 || b == 9 || b == 10 || b == 44 || b == 126 || b == 40 || b == 41 || b == 47 || b == 34)

-- the spelling of a name
unfoldable pub is_name : List ℕ → Bool
is_name word = not (is_empty word) && list_all is_name_byte word && not (same_word word (codes "0"))

-- words that cell files use otherwise
abbrev pub cell_file_words : List (List ℕ)
cell_file_words = codes "end" ∷ codes "labels" ∷ codes "properties" ∷ codes "elements" ∷ codes "checkpaint" ∷ codes "checksubcell" ∷ []

-- the spelling of a type's name
unfoldable pub is_type_name : List ℕ → Bool
is_type_name word = is_name word && not (list_any (same_word word) cell_file_words) && not (starts_with nat_eq word (codes "error_"))
