-- Where the part lies in the piece's span its topmost node is changed; otherwise one half is changed after the other.
use Rattle.std.proofs.Common.{◌≡◌, ◌+◌, ◌^◌, suc, List, sym, ap, subst, ◌∙◌, arith}
use Rattle.mls_geom.proofs.Definitions.{Segment, stepped, node_of, span_of, end_of, HasChanged}
use Rattle.mls_geom.proofs.ShownSlots.{halves_of, span_read}
use Rattle.mls_geom.proofs.ChangedChains.{HasChanged-apart, HasChanged-whole, HasChanged-halves}
use Rattle.mls_geom.proofs.tree.Tree.+change_in.Goals as goal

pub returns-then-not-meets-clause-changed : goal.returns-then-not-meets-clause-changed
returns-then-not-meets-clause-changed t c = λ height is.
    HasChanged-apart is (rw (span_read c.args.self.now.segments.items c.args.piece c.index.result.now c.requires.known c.index.ensures) at (sym c.meets.ensures ∙ c.if-not-meets.true))

pub sum_up-requires-clause-linked : goal.sum_up-requires-clause-linked
sum_up-requires-clause-linked t c =
    let (chains, before) = c.requires.linked in
    (_, c.in_ok-change_at.ensures.linked chains before)

pub returns-then-lies_in-clause-changed : goal.returns-then-lies_in-clause-changed
returns-then-lies_in-clause-changed t c = λ height is.
    let node : c.node.result ≡ node_of height c.args.part.first = omega (arith, c.node.ensures, is) in
    HasChanged-whole is (rw (span_read c.args.self.now.segments.items c.args.piece c.index.result.now c.requires.known c.index.ensures) at (sym c.lies_in.ensures ∙ c.if-lies_in.true)) c.change_at.ensures.segments
    (rw node at c.in_ok-change_at.ensures.linked) (rw node at c.change_at.ensures.others) (c.sum_up.ensures.summed height is)

pub change_in-requires : goal.change_in-requires
change_in-requires t c =
    let (height, is) = c.requires.width in
    let (k, next, half, both, some) = halves_of height c.args.part.first c.args.part.width c.index.result.now.span is (sym c.meets.ensures ∙ c.if-not-meets.false) (sym c.lies_in.ensures ∙ c.if-lies_in.false) in (
      omega (arith, c.decreases, c.left.ensures.width, half, both, some),
      (
        (k, c.left.ensures.width ∙ half),
        (
          omega (arith, c.left.ensures.first, c.left.ensures.width, half, both, c.requires.within),
          (c.requires.few, (c.requires.known, (c.requires.some, c.requires.linked))),
        ),
      ),
    )

pub change_in-requires-2 : goal.change_in-requires-2
change_in-requires-2 t c =
    let (height, is) = c.requires.width in
    let (chains, before) = c.requires.linked in
    let (k, next, half, both, some) = halves_of height c.args.part.first c.args.part.width c.index.result.now.span is (sym c.meets.ensures ∙ c.if-not-meets.false) (sym c.lies_in.ensures ∙ c.if-lies_in.false) in (
      omega (arith, c.decreases, c.right.ensures.width, half, both, some),
      (
        (k, c.right.ensures.width ∙ half),
        (
          omega (arith, c.right.ensures.first, c.right.ensures.width, half, both, c.requires.within, c.change_in.ensures.nodes),
          (
            rw c.change_in.ensures.segments c.requires.few,
            (
              rw c.change_in.ensures.segments c.requires.known,
              (
                rw c.change_in.ensures.segments c.requires.some,
                (_, (c.in_ok-change_in.ensures.changed k (c.left.ensures.width ∙ half)).linked chains before),
              ),
            ),
          ),
        ),
      ),
    )

pub sum_up-requires-2-clause-linked : goal.sum_up-requires-2-clause-linked
sum_up-requires-2-clause-linked t c =
    let (height, is) = c.requires.width in
    let (chains, before) = c.requires.linked in
    let (k, next, half, both, some) = halves_of height c.args.part.first c.args.part.width c.index.result.now.span is (sym c.meets.ensures ∙ c.if-not-meets.false) (sym c.lies_in.ensures ∙ c.if-lies_in.false) in
    (_, (c.in_ok-change_in-2.ensures.changed k (c.right.ensures.width ∙ half)).linked _ ((c.in_ok-change_in.ensures.changed k (c.left.ensures.width ∙ half)).linked chains before))

pub returns-clause-changed : goal.returns-clause-changed
returns-clause-changed t c = λ height is.
    let (k, next, half, both, some) = halves_of height c.args.part.first c.args.part.width c.index.result.now.span is (sym c.meets.ensures ∙ c.if-not-meets.false) (sym c.lies_in.ensures ∙ c.if-lies_in.false) in
    let wide : c.args.part.width ≡ 2 ^ suc k = is ∙ ap (λ h. 2 ^ h) next in
    let left_width : c.left.result.width ≡ 2 ^ k = omega (arith, c.left.ensures.width, half) in
    let right_width : c.right.result.width ≡ 2 ^ k = omega (arith, c.right.ensures.width, half) in
    let right_first : c.right.result.first ≡ c.args.part.first + 2 ^ k = omega (arith, c.right.ensures.first, half) in
    rw next (HasChanged-halves {k = k} wide (rw (span_read c.args.self.now.segments.items c.args.piece c.index.result.now c.requires.known c.index.ensures) at (sym c.lies_in.ensures ∙ c.if-lies_in.false)) c.change_in.ensures.segments c.change_in-2.ensures.segments
    (rw c.left.ensures.first at (c.in_ok-change_in.ensures.changed k left_width))
    (subst (λ (list : List Segment). HasChanged c.change_in.new.self c.change_in-2.new.self (span_of list c.args.piece) (stepped c.args.step (end_of list) c.args.piece) k (c.args.part.first + 2 ^ k)) (ap (λ segments. segments.items) c.change_in.ensures.segments)
    (rw right_first at (c.in_ok-change_in-2.ensures.changed k right_width)))
    (c.sum_up-2.ensures.summed (suc k) wide))
