-- Legal journals, and lists of commands and replies that are those of one. This project's own.
use Rattle.std.specs.Prelude.{◌≡◌, List, map}
use Rattle.mls_session.specs.Journals.{IsLegal}
use Rattle.mls_session.specs.OwnSteps.{OwnState, Terms}
use Rattle.mls_session.specs.declared.journal.Entry.{Entry}
use Rattle.mls_session.specs.declared.journal.Said.{Said}

-- on these terms some session has this journal alone: no reply is refused because the journal was full or memory ran out, and its check steps and commands,
-- entry by entry, are those of an alone run, with these replies
abbrev pub IsLegalJournal : Terms → List Entry → Type 0
IsLegalJournal terms journal = (own : OwnState) × IsLegal terms (record { own = own; journal = journal; checks = 0 })

-- with some number of check steps before each command, these commands and replies are a legal journal
abbrev pub IsLegalList : Terms → List Said → Type 0
IsLegalList terms list = (journal : List Entry) × (map (λ entry. entry.said) journal ≡ list) × IsLegalJournal terms journal
