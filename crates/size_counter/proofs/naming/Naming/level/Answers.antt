use Rattle.std.proofs.Common.{◌≡◌, ◌≤◌, ◌&&◌, ◌+◌, ℕ, List, length, sym, subst, ap, ltb, get_or, ◌∙◌}
use Rattle.std.proofs.lemmas.Bool.{and_parts, ltb-true}
use Rattle.gm_base.specs.Sets.{has}
use Rattle.size_counter.specs.Counter.{IsOrder}
use Rattle.size_counter.specs.Sizes.{AreDistinct}
use Rattle.size_counter.specs.Names.{Naming}
use Rattle.size_counter.proofs.LevelLemmas.{LeavesTo, LeavesTo-start, LeavesTo-out, LeavesTo-kept, LeavesTo-end, order-level, level-made}
use Rattle.size_counter.proofs.naming.Naming.level.Goals as goal
use Rattle.size_counter.proofs.naming.Naming.level.Goals.{then-is_left_out, else-is_left_out+in_ok-push, then-contains, else-contains}

pub loop-group-init : goal.loop-group-init
loop-group-init c =
    subst (λ (xs : List ℕ). LeavesTo c.args.most c.args.self.now.alone c.as_slice-group-items.result.now 0 xs c.args.most) (sym c.new-order.ensures.items)
    (LeavesTo-start c.args.most c.args.self.now.alone c.as_slice-group-items.result.now)

-- a group that is sure is left out as long as more may be
pub loop-group-preserved : goal.loop-group-preserved
loop-group-preserved c =
    let most = c.args.most in
    let alone = c.args.self.now.alone in
    let named = c.as_slice-group-items.result.now in
    let i = c.loop-group.group-index in
    let g = get_or named i 0 in
    let left = c.loop-group.left in
    let alone_is = c.as_slice.ensures.value ∙ ap (λ (n : Naming). n.alone) c.self.view_is in
    let told : c.contains.result ≡ has alone g = c.contains.ensures ∙ (c.in_ok-sure.ensures g ∙ ap (λ xs. has xs g) alone_is) in
    let is : c.if-contains.is_left_out ≡ (has alone g && ltb 0 left) =
    elim c.if-contains.branch [
      | then-contains w ↦ w.is_left_out-is ∙ ap (λ b. b && ltb 0 left) (sym (sym told ∙ w.if-contains.true))
      | else-contains w ↦ w.is_left_out-is ∙ w.if-contains.false ∙ ap (λ b. b && ltb 0 left) (sym (sym told ∙ w.if-contains.false))
    ] in
    elim c.if-is_left_out.branch [
      | then-is_left_out w ↦
          let parts = and_parts (has alone g) (ltb 0 left) (sym is ∙ w.if-is_left_out.true) in
          subst (λ (xs : List ℕ). LeavesTo most alone named (i + 1) xs c.if-is_left_out.left) (sym (ap (λ v. v.items) w.order-is))
          (subst (LeavesTo most alone named (i + 1) c.loop-group.order.items) (sym w.left-is)
          (LeavesTo-out most alone named i c.loop-group.order.items left c.loop-group-test.true c.loop-group.invariant parts.0 (ltb-true 0 left parts.1)))
      | else-is_left_out+in_ok-push w ↦
          subst (λ (xs : List ℕ). LeavesTo most alone named (i + 1) xs c.if-is_left_out.left) (sym (ap (λ v. v.items) w.order-is ∙ w.in_ok-push.ensures.items))
          (subst (LeavesTo most alone named (i + 1) _) (sym w.left-is)
          (LeavesTo-kept most alone named i c.loop-group.order.items left c.loop-group-test.true c.loop-group.invariant (sym is ∙ w.if-is_left_out.false)))
    ]

pub new-requires : goal.new-requires
new-requires c =
    let names = c.args.self.now in
    let named_are = c.as_slice-group-items.ensures.numbers ∙ ap (λ (n : Naming). n.named) c.self.view_is in
    let distinct = subst AreDistinct (ap (λ (n : Naming). n.named) c.self.view_is) c.as_slice-group-items.ensures.distinct in
    let end = LeavesTo-end c.args.most c.args.groups names c.loop-group.group-index c.loop-group.order.items c.loop-group.left distinct
    (subst (λ (xs : List ℕ). length xs ≤ c.loop-group.group-index) named_are c.loop-group-test.false)
    (subst (λ (xs : List ℕ). LeavesTo c.args.most names.alone xs c.loop-group.group-index c.loop-group.order.items c.loop-group.left) named_are c.loop-group.invariant) in
    subst (IsOrder c.args.groups) (sym end.0) (order-level c.args.groups c.args.most names distinct c.requires)

-- what is left of the bound, and the groups that are not left out
pub returns : goal.returns
returns c =
    let names = c.args.self.now in
    let named_are = c.as_slice-group-items.ensures.numbers ∙ ap (λ (n : Naming). n.named) c.self.view_is in
    let distinct = subst AreDistinct (ap (λ (n : Naming). n.named) c.self.view_is) c.as_slice-group-items.ensures.distinct in
    let end = LeavesTo-end c.args.most c.args.groups names c.loop-group.group-index c.loop-group.order.items c.loop-group.left distinct
    (subst (λ (xs : List ℕ). length xs ≤ c.loop-group.group-index) named_are c.loop-group-test.false)
    (subst (λ (xs : List ℕ). LeavesTo c.args.most names.alone xs c.loop-group.group-index c.loop-group.order.items c.loop-group.left) named_are c.loop-group.invariant) in
    c.new.ensures
    ∙ ap (λ k. record { kind = k; groups = c.args.groups; bound = c.loop-group.left; order = c.loop-group.order.items }) (ap (λ (n : Naming). n.kind) c.self.view_is)
    ∙ level-made c.args.groups c.args.most names c.loop-group.left c.loop-group.order.items end.0 end.1
