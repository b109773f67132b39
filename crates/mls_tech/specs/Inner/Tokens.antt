-- The tokens of a type list, as the code has them.
use Rattle.std.specs.Prelude.{ℕ, ◌==◌, Bool, ◌||◌}
use Rattle.mls_tech.specs.TypeLists as lists
use Rattle.mls_tech.specs.declared.token.Token.{Token}
use Rattle.mls_tech.specs.declared.token.Token.TheVariants.{Comma, Slash, Tilde, Opening, Closing, Word}

abbrev pub token_of : Token → lists.Token
token_of Comma = lists.Comma
token_of Slash = lists.Slash
token_of Tilde = lists.Tilde
token_of Opening = lists.Opening
token_of Closing = lists.Closing
token_of (Word word) = lists.Word word.now

-- a byte that is a token by itself
unfoldable pub is_mark : ℕ → Bool
is_mark b = b == 44 || b == 47 || b == 126 || b == 40 || b == 41
