-- What a journal's lines ask for, and what a session as it is opened does by them. This project's own.
use Rattle.std.specs.Prelude.{◌≡◌, ℕ, Some, List, [], ◌∷◌, ◌++◌, map, replicate}
use Rattle.std.specs.List.{flat_map}
use Rattle.mls_server.specs.mls_session.Journals.{Kept, kept_at_opening}
use Rattle.mls_server.specs.mls_session.OwnSteps.{Terms}
use Rattle.mls_server.specs.mls_session.declared.journal.Entry.{Entry}
use Rattle.mls_server.specs.OwnLists.{Item, alone, asked, at, checked}

-- an entry's check steps, and its command
abbrev pub entry_items : Entry → List Item
entry_items entry = replicate entry.checks_before checked ++ asked entry.said.command ∷ []

-- what the lines of a journal ask for, and of the check steps after it
abbrev pub journal_items : List Entry → ℕ → List Item
journal_items entries steps = flat_map entry_items entries ++ replicate steps checked

-- alone, in a session as it is opened, this gives the journal's replies, and leads to all that is kept
abbrev pub PlaysAgain : Terms → Kept → Type 0
PlaysAgain terms kept =
    alone terms (at (kept_at_opening terms.config.rules)) (journal_items kept.journal kept.checks)
    ≡ Some (record { kept = kept; replies = map (λ entry. entry.said.reply) kept.journal })
