-- Replies that were written, one more at a time.
use Rattle.std.proofs.Common.{ℕ, ◌&&◌, Bool, true, Option, List, [], ◌∷◌, ◌++◌, refl, sym, ap, ◌∙◌, append_assoc, append-nil, flat_map}
use Rattle.std.proofs.KnownBytes.{Appends-nil, Appends-trans}
use Rattle.std.proofs.Math.Bool.{and-true}
use Rattle.std.proofs.lemmas.Grind.{flat_map-append}
use Rattle.std.proofs.lemmas.List.Elements.{All-nil, All-push}
use Rattle.std.proofs.lemmas.List.Folds.{list_all-append}
use Rattle.std.specs.Io.KnownBytes.{Appends}
use Rattle.std.specs.List.{list_all}
use Rattle.mls_seat_lines.specs.mls_session.OwnSteps.{Terms}
use Rattle.mls_seat_lines.specs.mls_wire.NameBooks.{Names}
use Rattle.mls_seat_lines.specs.mls_wire.Serving.{AppendsFront, Gains}
use Rattle.mls_lines.specs.Scripts.{AreReplies, AreSomeReplies, IsReply, ReplyText}

abbrev audited_of : ReplyText → Bool
audited_of reply = reply.audited

module _ (terms : Terms) (book : Names) (script : Option (List ℕ)) where
  replies_push : (out : List ℕ) (audited : Bool) (reply : ReplyText) → AreReplies terms book script audited out → IsReply terms book script reply
      → AreReplies terms book script (audited && reply.audited) (out ++ reply.text)
  replies_push out audited reply (all, are, is, both) one = (
    all ++ reply ∷ [],
    All-push (λ t. IsReply terms book script t) all reply are one,
    ap (λ o. o ++ reply.text) is ∙ ap (λ t. flat_map (λ (x : ReplyText). x.text) all ++ t) (sym (append-nil reply.text)) ∙ sym (flat_map-append (λ (x : ReplyText). x.text) all (reply ∷ [])),
    ap (λ b. b && reply.audited) both ∙ ap (λ b. list_all audited_of all && b) (sym (and-true reply.audited)) ∙ sym (list_all-append audited_of all (reply ∷ [])),
  )

  -- nothing was written yet
  pub replies_none : (a : Option (List ℕ)) → Gains a a (AreReplies terms book script true)
  replies_none a = ([], ([], All-nil (λ t. IsReply terms book script t), refl, refl), Appends-nil a)

  -- a reply more
  pub replies_more : (a b c : Option (List ℕ)) (audited : Bool) (reply : ReplyText) → Gains a b (AreReplies terms book script audited) → IsReply terms book script reply
      → Appends b c reply.text → Gains a c (AreReplies terms book script (audited && reply.audited))
  replies_more a b c audited reply (out, are, grew) one grows = (out ++ reply.text, replies_push out audited reply are one, Appends-trans a b c out reply.text grew grows)

  -- a beginning of a reply more
  pub replies_front : (a b c : Option (List ℕ)) (audited : Bool) (reply : ReplyText) → Gains a b (AreReplies terms book script audited) → IsReply terms book script reply
      → AppendsFront b c reply.text → (whole : List ℕ) × AreSomeReplies terms book script whole × AppendsFront a c whole
  replies_front a b c audited reply (out, are, grew) one (front, missing, split, grows) = (
    out ++ reply.text,
    (audited && reply.audited, replies_push out audited reply are one),
    (out ++ front, missing, ap (λ t. out ++ t) split ∙ sym (append_assoc out front missing), Appends-trans a b c out front grew grows),
  )

  -- whether all were audited or not
  pub replies_some : (a b : Option (List ℕ)) (audited : Bool) → Gains a b (AreReplies terms book script audited) → Gains a b (AreSomeReplies terms book script)
  replies_some a b audited (out, are, grew) = (out, (audited, are), grew)
