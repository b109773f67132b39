-- Whether two entries are equal: the test says true exactly where they are the same.
use Rattle.std.proofs.Common.{◌≡◌, ◌&&◌, ℕ, ℤ, true, refl, ap, ◌∙◌, rules, tests, int_eq, Decides}
use Rattle.std.proofs.lemmas.Bool.Decides.{Decides-and, Decides-eqb, Decides-int_eq, Decides-like}
use Rattle.mls_session.specs.contracts.command.CommandPartialEq.TheImpl as command_test
use Rattle.mls_session.specs.contracts.journal.EntryPartialEq.TheImpl as entry_test
use Rattle.mls_session.specs.contracts.journal.SaidPartialEq.TheImpl as said_test
use Rattle.mls_session.specs.contracts.reply.ReplyPartialEq.TheImpl as reply_test
use Rattle.mls_session.proofs.Common.{Box, Command, Entry, Reply, Said}

-- ---- replies
pub reply_exact : (a b : Reply) → Decides ((reply_test.ghosts).eq a b) (a ≡ b)
reply_exact a b = search (rules, tests)

-- ---- commands
box_exact :
    (left bottom right top left' bottom' right' top' : ℤ)
    → Decides (int_eq left left' && (int_eq bottom bottom' && (int_eq right right' && int_eq top top'))) (Box left bottom right top ≡ Box left' bottom' right' top')
box_exact left bottom right top left' bottom' right' top' =
    Decides-like _ (λ parts. cc) (λ is. (cc, (cc, (cc, cc))))
    (Decides-and _ _ (Decides-int_eq left left') (Decides-and _ _ (Decides-int_eq bottom bottom') (Decides-and _ _ (Decides-int_eq right right') (Decides-int_eq top top'))))

pub command_exact : (a b : Command) → Decides ((command_test.ghosts).eq a b) (a ≡ b)
command_exact (Box left bottom right top) (Box left' bottom' right' top') = box_exact left bottom right top left' bottom' right' top'
command_exact (Box left bottom right top) b = (λ is. absurd cc, λ is. absurd cc)
command_exact a b = search (rules, tests)

-- ---- entries
pub said_exact : (a b : Said) → Decides ((said_test.ghosts).eq a b) (a ≡ b)
said_exact a b =
    let with_command : Command → Said = λ command. record { command = command; reply = a.reply } in
    let with_reply : Reply → Said = λ reply. record { command = b.command; reply = reply } in
    Decides-like _ (λ parts. ap with_command parts.0 ∙ ap with_reply parts.1) (λ is. (ap (λ (s : Said). s.command) is, ap (λ (s : Said). s.reply) is))
    (Decides-and _ _ (command_exact a.command b.command) (reply_exact a.reply b.reply))

pub entry_exact : (a b : Entry) → Decides ((entry_test.ghosts).eq a b) (a ≡ b)
entry_exact a b =
    let with_checks : ℕ → Entry = λ checks. record { checks_before = checks; said = a.said } in
    let with_said : Said → Entry = λ said. record { checks_before = b.checks_before; said = said } in
    Decides-like _ (λ parts. ap with_checks parts.0 ∙ ap with_said parts.1) (λ is. (ap (λ (e : Entry). e.checks_before) is, ap (λ (e : Entry). e.said) is))
    (Decides-and _ _ (Decides-eqb a.checks_before b.checks_before) (said_exact a.said b.said))

pub entry_eq-exact : (a b : Entry) → (entry_test.ghosts).eq a b ≡ true → a ≡ b
entry_eq-exact a b = (entry_exact a b).0

pub entry_eq-same : (a : Entry) → (entry_test.ghosts).eq a a ≡ true
entry_eq-same a = (entry_exact a a).1 refl
