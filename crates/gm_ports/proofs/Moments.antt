-- How what a crash may leave goes on from call to call.
use Rattle.std.proofs.Common.{◌≤◌, inl, inr, ⊎_elim, ℕ, List, refl, ◌∙◌, arith}
use Rattle.gm_ports.specs.DiskState.{DiskState, IsLawful, Elapses, Looks, AtEachMoment}

-- before the first call
pub AtEachMoment-none : (s : DiskState) (P : List ℕ → Type 0) → IsLawful s → ((c : List ℕ) → s.may_leave c → P c) → AtEachMoment s s P
AtEachMoment-none s P lawful here = record { later = omega arith; each = λ c left. here c (lawful.only_now c left); before = λ t c le left. inl left }

-- after one call more
pub AtEachMoment-call : (old mid new : DiskState) (P : List ℕ → Type 0) → AtEachMoment old mid P → Elapses mid new → ((c : List ℕ) → new.may_leave c → P c) → AtEachMoment old new P
AtEachMoment-call old mid new P so_far time here =
    let reaches : old.moment ≤ mid.moment = so_far.later in
    let goes : mid.moment ≤ new.moment = time.later in
    record {
      later = omega arith;
      each = λ c left. ⊎_elim (so_far.each c) (here c) (time.nothing_else old.moment c so_far.later left);
      before = λ t c le left. ⊎_elim (so_far.before t c le) (λ now. inr (here c now)) (time.nothing_else t c (omega arith) left);
    }

-- after a run of calls more
pub AtEachMoment-then : (old mid new : DiskState) (P : List ℕ → Type 0) → AtEachMoment old mid P → AtEachMoment mid new P → AtEachMoment old new P
AtEachMoment-then old mid new P first second =
    let reaches : old.moment ≤ mid.moment = first.later in
    let goes : mid.moment ≤ new.moment = second.later in
    record {
      later = omega arith;
      each = λ c left. ⊎_elim (first.each c) (λ p. p) (second.before old.moment c first.later left);
      before = λ t c le left. ⊎_elim (first.before t c le) (λ p. inr p) (second.before t c (omega arith) left);
    }

pub AtEachMoment-weaker : (old new : DiskState) (P Q : List ℕ → Type 0) → AtEachMoment old new P → ((c : List ℕ) → P c → Q c) → AtEachMoment old new Q
AtEachMoment-weaker old new P Q has implies = record {
  later = has.later;
  each = λ c left. implies c (has.each c left);
  before = λ t c le left. ⊎_elim (λ was. inl was) (λ p. inr (implies c p)) (has.before t c le left);
}

-- ---- calls that write nothing

pub Looks-none : (s : DiskState) → Looks s s
Looks-none s = record {
  reads = refl;
  crash = λ c left. left;
  time = record { later = omega arith; nothing_else = λ t c le left. inl left; keeps = λ t c le left. left };
  name = refl;
}

-- what the first call may leave, it could leave before, and so since any earlier moment
pub Looks-then : (old mid new : DiskState) → IsLawful old → Looks old mid → Looks mid new → Looks old new
Looks-then old mid new lawful first second =
    let reaches : old.moment ≤ mid.moment = first.time.later in
    let goes : mid.moment ≤ new.moment = second.time.later in
    record {
      reads = second.reads ∙ first.reads;
      crash = λ c left. first.crash c (second.crash c left);
      time = record {
        later = omega arith;
        nothing_else = λ t c le left. ⊎_elim
            (λ was. inl (⊎_elim (λ before. before) (λ now. lawful.counts_now t c le (first.crash c now)) (first.time.nothing_else t c le was)))
            (λ now. inr now) (second.time.nothing_else t c (omega arith) left);
        keeps = λ t c le left. second.time.keeps t c (omega arith) (first.time.keeps t c le left);
      };
      name = second.name ∙ first.name;
    }
