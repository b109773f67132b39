-- Texts in parts, and messages one after another.
use Rattle.std.proofs.Common.{◌≡◌, ◌∙◌, ◌<◌, ℕ, ◌+◌, Option, List, [], ◌∷◌, ◌++◌, length, take, drop, get_or, map, refl, sym, ap, subst, append_assoc, add-one, take-append-drop, codes}
use Rattle.std.proofs.Math.Seq.{take-suc}
use Rattle.std.proofs.lemmas.Grind.{flat_map-append}
use Rattle.std.proofs.KnownBytes.{Appends-trans}
use Rattle.std.proofs.lemmas.List.{map-append}
use Rattle.std.specs.Borrow.{Bor}
use Rattle.std.specs.Fmt.{decimal}
use Rattle.std.specs.List.{flat_map}
use Rattle.std.specs.Io.KnownBytes.{Appends}
use Rattle.mls_lines.specs.mls_wire.Serving.{AppendsFront, serve_fault_text}
use Rattle.mls_lines.specs.mls_wire.declared.serving.ServeFault.{ServeFault}
use Rattle.mls_lines.specs.mls_wire.Watches.{Watched}
use Rattle.mls_tech.specs.declared.rule_line.Skipped.{Skipped}
use Rattle.mls_magicd.specs.Messages.{ReportsAll, Reports, bad_cell_line, faulty_line, serve_fault_line, skipped_message, unreadable_line}

-- the text of parts
abbrev pub text_of : List (Bor (List ℕ)) → List ℕ
text_of = flat_map (λ part. part.now)

-- one part more
pub text_of-more : (parts : List (Bor (List ℕ))) (i : ℕ) (d : Bor (List ℕ)) → i < length parts
    → text_of (take (i + 1) parts) ≡ text_of (take i parts) ++ (get_or parts i d).now
text_of-more parts i d within =
    rw (add-one, take-suc parts i d within) (flat_map-append (λ part. part.now) (take i parts) (get_or parts i d ∷ []) ∙ ap (λ t. text_of (take i parts) ++ t) (append_nil (get_or parts i d).now))
  where
    append_nil : (t : List ℕ) → t ++ [] ≡ t
    append_nil [] = refl
    append_nil (x ∷ xs) = ap (λ l. x ∷ l) (append_nil xs)

-- the parts up to one, that part, and those after it
text_of-split : (parts : List (Bor (List ℕ))) (i : ℕ) (d : Bor (List ℕ)) → i < length parts
    → text_of parts ≡ (text_of (take i parts) ++ (get_or parts i d).now) ++ text_of (drop (i + 1) parts)
text_of-split parts i d within =
    ap text_of (sym (take-append-drop (i + 1) parts)) ∙ flat_map-append (λ part. part.now) (take (i + 1) parts) (drop (i + 1) parts)
    ∙ ap (λ t. t ++ text_of (drop (i + 1) parts)) (text_of-more parts i d within)

-- the parts so far were written, and of the next one a beginning
pub front-more : (old mid new : Option (List ℕ)) (parts : List (Bor (List ℕ))) (i : ℕ) (d : Bor (List ℕ)) → i < length parts
    → Appends old mid (text_of (take i parts))
    → (front missing : List ℕ) → (get_or parts i d).now ≡ front ++ missing → Appends mid new front
    → AppendsFront old new (text_of parts)
front-more old mid new parts i d within before front missing split written =
    let done = text_of (take i parts) in
    let rest = text_of (drop (i + 1) parts) in
    let part = (get_or parts i d).now in (
      done ++ front,
      missing ++ rest,
      text_of-split parts i d within ∙ ap (λ t. (done ++ t) ++ rest) split ∙ regroup done front missing rest,
      Appends-trans old mid new done front before written,
    )
  where
    regroup : (a b c d : List ℕ) → (a ++ (b ++ c)) ++ d ≡ (a ++ b) ++ (c ++ d)
    regroup a b c d = simp append_assoc

-- nothing was reported
pub ReportsAll-nil : {E : Type 0} (contents : E → Option (List ℕ)) (watch : Watched E) → ReportsAll contents watch watch []
unfolding ReportsAll
ReportsAll-nil contents watch = refl

-- one message more
pub ReportsAll-more : {E : Type 0} (contents : E → Option (List ℕ)) (old mid new : Watched E) (messages : List (List ℕ)) (message : List ℕ)
    → ReportsAll contents old mid messages → Reports contents mid new message → ReportsAll contents old new (messages ++ message ∷ [])
unfolding ReportsAll
ReportsAll-more {E} contents old mid new [] message before reported = (new, subst (λ (w : Watched E). Reports contents w new message) before reported, refl)
ReportsAll-more contents old mid new (first ∷ messages) message before reported =
    (before.0, before.1, ReportsAll-more contents before.0 mid new messages message before.2 reported)

-- the texts of one element more
pub map-more : {X : Type 0} (f : X → List ℕ) (xs : List X) (i : ℕ) (x : X) → i < length xs → x ≡ get_or xs i x
    → map f (take (i + 1) xs) ≡ map f (take i xs) ++ f x ∷ []
map-more f xs i x within is =
    rw (add-one, take-suc xs i x within) (map-append f (take i xs) (get_or xs i x ∷ []) ∙ ap (λ y. map f (take i xs) ++ f y ∷ []) (sym is))

-- ---- the lines in their parts
pub skipped_message-parts : (skipped : Skipped) (line keyword : List ℕ) → line ≡ decimal skipped.line → keyword ≡ skipped.keyword
    → codes "magicd: tech line " ++ (line ++ (codes " skipped " ++ (keyword ++ 10 ∷ []))) ≡ skipped_message skipped
unfolding skipped_message
skipped_message-parts skipped line keyword line_is keyword_is = rw (line_is, keyword_is) (simp append_assoc)

pub faulty_line-parts : (file name sort words : List ℕ) (n m : ℕ) (line number text : List ℕ) → line ≡ decimal n → number ≡ decimal m → text ≡ words
    → codes "magicd: " ++ (file ++ (name ++ (codes " line " ++ (line ++ (sort ++ (number ++ (32 ∷ [] ++ (text ++ 10 ∷ []))))))))
    ≡ faulty_line (file ++ name) sort n m words
unfolding faulty_line
faulty_line-parts file name sort words n m line number text line_is number_is text_is = rw (line_is, number_is, text_is) (simp append_assoc)

pub unreadable_line-parts : (path part : List ℕ) → part ≡ path → codes "magicd: cannot read " ++ (part ++ 10 ∷ []) ≡ unreadable_line path
unfolding unreadable_line
unreadable_line-parts path part part_is = rw part_is (simp append_assoc)

pub serve_fault_line-parts : (fault : ServeFault) (part : List ℕ) → part ≡ serve_fault_text fault
    → codes "magicd: " ++ (part ++ 10 ∷ []) ≡ serve_fault_line fault
unfolding serve_fault_line
serve_fault_line-parts fault part part_is = rw part_is (simp append_assoc)

pub bad_cell_line-parts : (word part : List ℕ) → part ≡ word → codes "magicd: bad cell argument " ++ (part ++ 10 ∷ []) ≡ bad_cell_line word
unfolding bad_cell_line
bad_cell_line-parts word part part_is = rw part_is (simp append_assoc)
