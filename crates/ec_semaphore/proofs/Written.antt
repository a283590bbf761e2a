-- The whole lists of the rules are the written ones.
use Rattle.std.proofs.Common.{◌≡◌, ◌≢◌, ℕ, zero, suc, Bool, true, false, not, ◌&&◌, ◌||◌, ◌==◌, ◌⊎◌, inl, inr, List, [], ◌∷◌, length, take, slice_get, Some, refl, ap, sym, ◌∙◌, arith, subst}
use Rattle.std.proofs.lemmas.Bool.{eqb-true, eq-eqb, ne_eqb, and_parts, and_from, or_cases}
use Rattle.ec_core.specs.declared.act.Act.{Act}
use Rattle.ec_core.specs.declared.act.Act.TheVariants.{Advance, Read, Await, Go, Ticket, Put, Get, Hand}
use Rattle.ec_core.specs.Counts.{is_advance}
use Rattle.ec_core.specs.CallLists.{is_act, reply_number}
use Rattle.ec_core.specs.Following.{CompletedCall}
use Rattle.ec_core.specs.JoinedLists.{ComesNext, IsWholeList}
use Rattle.ec_core.specs.Procedures.{IsWritten}
use Rattle.ec_core.proofs.shared.Following.{is_act-true}
use Rattle.ec_core.proofs.shared.JoinedLists.{following_joins, following_stands}
use Rattle.ec_semaphore.specs.Shapes.{Semaphore}
use Rattle.ec_semaphore.specs.Uses.{threshold, is_on, use_rule, use_rules}
use Rattle.ec_semaphore.specs.Both.{sequencer_number, is_semaphore_sequencer, down_both_call, both_rule, both_rules}
use Rattle.ec_semaphore.specs.Joined.{IsDown, IsUp, IsCriticalSection, IsDownBoth, DownIsWritten, UpIsWritten, UsesAreDownsAndUps, FollowingMeansUses, WholeListsAreCriticalSections, BothMeansCriticalSections, DownBothIsWritten}
use Rattle.ec_semaphore.proofs.shared.Implying.{fits_or as due_second}

-- P AND V

advanced : (e : ℕ) (op : Act) → is_advance e op ≡ true → op ≡ Advance e
advanced e (Advance f) h = ap Advance (eqb-true f e h)
advanced e (Read f) h = cc
advanced e (Await f v) h = cc
advanced e Go h = cc
advanced e (Ticket q) h = cc
advanced e (Put x v) h = cc
advanced e (Get x) h = cc
advanced e (Hand f b) h = cc

uses_from : (s : Semaphore) (calls : List CompletedCall) → IsWholeList (use_rule s) calls → IsDown s calls ⊎ IsUp s calls
uses_from s [] w = (let k = w.whole in cc)
uses_from s (v ∷ []) w = inr (record { advance = v; are = refl; advances = advanced s.count v.op w.whole })
uses_from s (t ∷ a ∷ []) w =
    (let first = w.each 0 t refl in
    let second = w.each 1 a refl in
    let wait : is_act (Await s.count (threshold s (reply_number t.reply))) a.op ≡ true = elim (or_cases (is_act (Await s.count (threshold s (reply_number t.reply))) a.op) false second.fits) [ inl d ↦ d | inr u ↦ cc ] in
    elim (or_cases (is_act (Ticket s.line) t.op) (is_act (Advance s.count) t.op) first.fits) [
      | inl d ↦ inl (record { ticket = t; wait = a; are = refl; draws = sym (is_act-true (Ticket s.line) t.op d); waits = sym (is_act-true (Await s.count (threshold s (reply_number t.reply))) a.op wait) })
      | inr u ↦
          (let op : t.op ≡ Advance s.count = sym (is_act-true (Advance s.count) t.op u) in
          let whole : is_advance s.count t.op ≡ true = ap (is_advance s.count) op ∙ eq-eqb s.count s.count refl in
          let goes_on : is_advance s.count t.op ≡ false = second.goes_on in absurd (cc))
    ])
uses_from s (t ∷ a ∷ c ∷ rest) w = (let third = w.each 2 c refl in let k = third.goes_on in absurd (cc))

due_first : (a b : Bool) → a ≡ true → (a || b) ≡ true
due_first true b h = refl
due_first false b h = cc

down_whole : (s : Semaphore) (t a : CompletedCall) → t.op ≡ Ticket s.line → a.op ≡ Await s.count (threshold s (reply_number t.reply)) → IsWholeList (use_rule s) (t ∷ a ∷ [])
down_whole s t a draws waits = record {
  each = down_each;
  whole = refl;
}
  where
    first : (use_rule s).fits [] t.op ≡ true
    first = ap ((use_rule s).fits []) draws ∙ due_first (s.line == s.line) false (eq-eqb s.line s.line refl)

    second : (use_rule s).fits (t ∷ []) a.op ≡ true
    second =
        ap ((use_rule s).fits (t ∷ [])) waits
        ∙ due_first ((s.count == s.count) && (threshold s (reply_number t.reply) == threshold s (reply_number t.reply))) false
        (and_from (s.count == s.count) (threshold s (reply_number t.reply) == threshold s (reply_number t.reply)) (eq-eqb s.count s.count refl) (eq-eqb (threshold s (reply_number t.reply)) (threshold s (reply_number t.reply)) refl))

    down_each : (k : ℕ) (c : CompletedCall) → slice_get (t ∷ a ∷ []) k ≡ Some c → ComesNext (use_rule s) (take k (t ∷ a ∷ [])) c.op
    down_each zero c at = (let same : t ≡ c = cc in let P : CompletedCall → Type 0 = λ z. ComesNext (use_rule s) [] z.op in subst P same (record { fits = first; goes_on = refl }))
    down_each (suc zero) c at = (let same : a ≡ c = cc in let P : CompletedCall → Type 0 = λ z. ComesNext (use_rule s) (t ∷ []) z.op in subst P same (record { fits = second; goes_on = ap (is_advance s.count) draws }))
    down_each (suc (suc k)) c at = cc

up_whole : (s : Semaphore) (v : CompletedCall) → v.op ≡ Advance s.count
    → IsWholeList (use_rule s) (v ∷ [])
up_whole s v advances = record {
  each = up_each;
  whole = ap (is_advance s.count) advances ∙ eq-eqb s.count s.count refl;
}
  where
    first : (use_rule s).fits [] v.op ≡ true
    first = ap ((use_rule s).fits []) advances ∙ due_second false (s.count == s.count) (eq-eqb s.count s.count refl)

    up_each : (k : ℕ) (c : CompletedCall) → slice_get (v ∷ []) k ≡ Some c → ComesNext (use_rule s) (take k (v ∷ [])) c.op
    up_each zero c at = (let same : v ≡ c = cc in let P : CompletedCall → Type 0 = λ z. ComesNext (use_rule s) [] z.op in subst P same (record { fits = first; goes_on = refl }))
    up_each (suc k) c at = cc

uses_whole : (s : Semaphore) (calls : List CompletedCall) → IsDown s calls ⊎ IsUp s calls → IsWholeList (use_rule s) calls
uses_whole s calls (inl d) = (let P : List CompletedCall → Type 0 = λ z. IsWholeList (use_rule s) z in subst P (sym d.are) (down_whole s d.ticket d.wait d.draws d.waits))
uses_whole s calls (inr u) = (let P : List CompletedCall → Type 0 = λ z. IsWholeList (use_rule s) z in subst P (sym u.are) (up_whole s u.advance u.advances))

pub uses_are : UsesAreDownsAndUps
uses_are s calls = (uses_from s calls, uses_whole s calls)

pub following_uses : FollowingMeansUses
following_uses s t h dec acc = following_joins t (use_rules s) (λ w. is_on s) h dec acc (λ w calls op. refl)

-- THE CRITICAL SECTION

guarded_from : (c : Semaphore) (lines : ℕ → Bool) (calls : List CompletedCall) → IsWholeList (both_rule c lines) calls → IsCriticalSection c lines calls
guarded_from c lines [] w = (let k = w.whole in cc)
guarded_from c lines (t ∷ []) w = (let k = w.whole in cc)
guarded_from c lines (t ∷ a ∷ []) w = (let k = w.whole in cc)
guarded_from c lines (t ∷ a ∷ r ∷ []) w = (let k = w.whole in cc)
guarded_from c lines (t ∷ a ∷ r ∷ s ∷ []) w = (let k = w.whole in cc)
guarded_from c lines (t ∷ a ∷ r ∷ s ∷ v ∷ []) w =
    let one = and_parts (is_act (Ticket c.line) t.op) true (w.each 0 t refl).fits in
    let two = and_parts (is_act (Await c.count (reply_number t.reply)) a.op) true (w.each 1 a refl).fits in
    let three = and_parts (is_act (Ticket (sequencer_number r.op)) r.op) (lines (sequencer_number r.op)) (w.each 2 r refl).fits in
    let four = and_parts (is_act (Ticket (sequencer_number s.op)) s.op) (lines (sequencer_number s.op) && not (sequencer_number r.op == sequencer_number s.op)) (w.each 3 s refl).fits in
    let chosen =
    and_parts (lines (sequencer_number s.op)) (not (sequencer_number r.op == sequencer_number s.op)) four.1 in
    let five = and_parts (is_act (Advance c.count) v.op) true (w.each 4 v refl).fits in
    record {
      ticket = t;
      wait = a;
      first = r;
      second = s;
      advance = v;
      are = refl;
      one = sequencer_number r.op;
      other = sequencer_number s.op;
      known_one = three.1;
      known_other = chosen.0;
      apart = λ same. (let k : (sequencer_number r.op == sequencer_number s.op) ≡ true = eq-eqb (sequencer_number r.op) (sequencer_number s.op) same in let n : not (sequencer_number r.op == sequencer_number s.op) ≡ true = chosen.1 in not_both (sequencer_number r.op == sequencer_number s.op) k n);
      draws = sym (is_act-true (Ticket c.line) t.op one.0);
      waits = sym (is_act-true (Await c.count (reply_number t.reply)) a.op two.0);
      draws_one = sym (is_act-true (Ticket (sequencer_number r.op)) r.op three.0);
      draws_other = sym (is_act-true (Ticket (sequencer_number s.op)) s.op four.0);
      advances = sym (is_act-true (Advance c.count) v.op five.0);
    }
  where
    not_both : (b : Bool) → b ≡ true → not b ≡ true → ⊥
    not_both true h n = cc
    not_both false h n = cc
guarded_from c lines (t ∷ a ∷ r ∷ s ∷ v ∷ x ∷ rest) w = (let k = (w.each 5 x refl).goes_on in absurd (cc))

line_is : (op : Act) (q : ℕ) → op ≡ Ticket q → sequencer_number op ≡ q
line_is op q is = ap sequencer_number is

and_true : (b : Bool) → b ≡ true → (b && true) ≡ true
and_true true h = refl
and_true false h = cc

guarded_whole : (c : Semaphore) (lines : ℕ → Bool) (t a r s v : CompletedCall) (p q : ℕ) → lines p ≡ true → lines q ≡ true → p ≢ q
    → t.op ≡ Ticket c.line → a.op ≡ Await c.count (reply_number t.reply) → r.op ≡ Ticket p → s.op ≡ Ticket q → v.op ≡ Advance c.count
    → IsWholeList (both_rule c lines) (t ∷ a ∷ r ∷ s ∷ v ∷ [])
guarded_whole c lines t a r s v p q known_p known_q apart draws waits draws_one draws_other advances = record {
  each = each_next;
  whole = refl;
}
  where
    calls : List CompletedCall
    calls = t ∷ a ∷ r ∷ s ∷ v ∷ []

    one : (both_rule c lines).fits [] t.op ≡ true
    one = ap ((both_rule c lines).fits []) draws ∙ and_true (c.line == c.line) (eq-eqb c.line c.line refl)

    two : (both_rule c lines).fits (t ∷ []) a.op ≡ true
    two =
        ap ((both_rule c lines).fits (t ∷ [])) waits
        ∙ and_true ((c.count == c.count) && (reply_number t.reply == reply_number t.reply))
        (and_from (c.count == c.count) (reply_number t.reply == reply_number t.reply) (eq-eqb c.count c.count refl) (eq-eqb (reply_number t.reply) (reply_number t.reply) refl))

    three : (both_rule c lines).fits (t ∷ a ∷ []) r.op ≡ true
    three = ap ((both_rule c lines).fits (t ∷ a ∷ [])) draws_one ∙ and_from (p == p) (lines p) (eq-eqb p p refl) known_p

    other : not (sequencer_number r.op == q) ≡ true
    other = ap (λ n. not (n == q)) (line_is r.op p draws_one) ∙ ap not (ne_eqb p q apart)

    four : (both_rule c lines).fits (t ∷ a ∷ r ∷ []) s.op ≡ true
    four =
        ap ((both_rule c lines).fits (t ∷ a ∷ r ∷ [])) draws_other
        ∙ and_from (q == q) (lines q && not (sequencer_number r.op == q)) (eq-eqb q q refl) (and_from (lines q) (not (sequencer_number r.op == q)) known_q other)

    five : (both_rule c lines).fits (t ∷ a ∷ r ∷ s ∷ []) v.op ≡ true
    five = ap ((both_rule c lines).fits (t ∷ a ∷ r ∷ s ∷ [])) advances ∙ and_true (c.count == c.count) (eq-eqb c.count c.count refl)

    each_next : (k : ℕ) (d : CompletedCall) → slice_get (t ∷ a ∷ r ∷ s ∷ v ∷ []) k ≡ Some d → ComesNext (both_rule c lines) (take k (t ∷ a ∷ r ∷ s ∷ v ∷ [])) d.op
    each_next zero d at = (let same : t ≡ d = cc in let P : CompletedCall → Type 0 = λ z. ComesNext (both_rule c lines) [] z.op in subst P same (record { fits = one; goes_on = refl }))
    each_next (suc zero) d at = (let same : a ≡ d = cc in let P : CompletedCall → Type 0 = λ z. ComesNext (both_rule c lines) (t ∷ []) z.op in subst P same (record { fits = two; goes_on = refl }))
    each_next (suc (suc zero)) d at = (let same : r ≡ d = cc in let P : CompletedCall → Type 0 = λ z. ComesNext (both_rule c lines) (t ∷ a ∷ []) z.op in subst P same (record { fits = three; goes_on = refl }))
    each_next (suc (suc (suc zero))) d at = (let same : s ≡ d = cc in let P : CompletedCall → Type 0 = λ z. ComesNext (both_rule c lines) (t ∷ a ∷ r ∷ []) z.op in subst P same (record { fits = four; goes_on = refl }))
    each_next (suc (suc (suc (suc zero)))) d at = (let same : v ≡ d = cc in let P : CompletedCall → Type 0 = λ z. ComesNext (both_rule c lines) (t ∷ a ∷ r ∷ s ∷ []) z.op in subst P same (record { fits = five; goes_on = refl }))
    each_next (suc (suc (suc (suc (suc k))))) d at = cc

guarded_back : (c : Semaphore) (lines : ℕ → Bool) (calls : List CompletedCall) → IsCriticalSection c lines calls → IsWholeList (both_rule c lines) calls
guarded_back c lines calls g =
    let P : List CompletedCall → Type 0 = λ z. IsWholeList (both_rule c lines) z in
    subst P (sym g.are)
    (guarded_whole c lines g.ticket g.wait g.first g.second g.advance g.one g.other g.known_one g.known_other g.apart g.draws g.waits g.draws_one g.draws_other g.advances)

pub guarded_are : WholeListsAreCriticalSections
guarded_are c lines calls = (guarded_from c lines calls, guarded_back c lines calls)

first_on : (c : Semaphore) (lines : ℕ → Bool) (op : Act) → (both_rule c lines).fits [] op ≡ true → is_on c op ≡ true
first_on c lines op h =
    (let is : op ≡ Ticket c.line = sym (is_act-true (Ticket c.line) op (and_parts (is_act (Ticket c.line) op) true h).0) in
    ap (is_on c) is ∙ eq-eqb c.line c.line refl)

pub following_both : BothMeansCriticalSections
following_both c shapes t h dec acc =
    following_stands t (both_rules c (is_semaphore_sequencer c shapes)) (λ w. is_on c) h dec acc
    (λ w. record { between = λ op. refl; within = λ d calls op. refl; first = λ op fits. first_on c (is_semaphore_sequencer c shapes) op fits })

-- WHAT PROCEDURES ASK FOR

some_is : (a b : Act) → Some a ≡ Some b → b ≡ a
some_is a b h = cc

pub down_is : DownIsWritten
down_is s [] w n = absurd (omega arith)
down_is s (t ∷ []) w n = absurd (omega arith)
down_is s (t ∷ a ∷ []) w n = record {
  ticket = t;
  wait = a;
  are = refl;
  draws = some_is (Ticket s.line) t.op (w 0 t refl);
  waits = some_is (Await s.count (threshold s (reply_number t.reply))) a.op (w 1 a refl);
}
down_is s (t ∷ a ∷ x ∷ rest) w n = absurd (omega arith)

pub up_is : UpIsWritten
up_is s [] w n = absurd (omega arith)
up_is s (v ∷ []) w n = record { advance = v; are = refl; advances = some_is (Advance s.count) v.op (w 0 v refl) }
up_is s (v ∷ x ∷ rest) w n = absurd (omega arith)

seven : (c one other : Semaphore) (lines : ℕ → Bool) (calls : List CompletedCall) → lines one.line ≡ true → lines other.line ≡ true → one.line ≢ other.line
    → IsWritten (down_both_call c one other) calls → length calls ≡ 7 → IsDownBoth c one other lines calls
seven c one other lines [] p q apart w n = absurd (omega arith)
seven c one other lines (t ∷ []) p q apart w n = absurd (omega arith)
seven c one other lines (t ∷ a ∷ []) p q apart w n = absurd (omega arith)
seven c one other lines (t ∷ a ∷ r ∷ []) p q apart w n = absurd (omega arith)
seven c one other lines (t ∷ a ∷ r ∷ s ∷ []) p q apart w n = absurd (omega arith)
seven c one other lines (t ∷ a ∷ r ∷ s ∷ v ∷ []) p q apart w n = absurd (omega arith)
seven c one other lines (t ∷ a ∷ r ∷ s ∷ v ∷ b ∷ []) p q apart w n = absurd (omega arith)
seven c one other lines (t ∷ a ∷ r ∷ s ∷ v ∷ b ∷ d ∷ []) p q apart w n =
    record {
      sections = t ∷ a ∷ r ∷ s ∷ v ∷ [];
      wait_one = b;
      wait_other = d;
      part = record {
        ticket = t;
        wait = a;
        first = r;
        second = s;
        advance = v;
        are = refl;
        one = one.line;
        other = other.line;
        known_one = p;
        known_other = q;
        apart = apart;
        draws = some_is (Ticket c.line) t.op (w 0 t refl);
        waits = some_is (Await c.count (reply_number t.reply)) a.op (w 1 a refl);
        draws_one = some_is (Ticket one.line) r.op (w 2 r refl);
        draws_other = some_is (Ticket other.line) s.op (w 3 s refl);
        advances = some_is (Advance c.count) v.op (w 4 v refl);
      };
      are = refl;
      down_one = record {
        ticket = r;
        wait = b;
        are = refl;
        draws = some_is (Ticket one.line) r.op (w 2 r refl);
        waits = some_is (Await one.count (threshold one (reply_number r.reply))) b.op (w 5 b refl);
      };
      down_other = record {
        ticket = s;
        wait = d;
        are = refl;
        draws = some_is (Ticket other.line) s.op (w 3 s refl);
        waits = some_is (Await other.count (threshold other (reply_number s.reply))) d.op (w 6 d refl);
      };
    }
seven c one other lines (t ∷ a ∷ r ∷ s ∷ v ∷ b ∷ d ∷ x ∷ rest) p q apart w n = absurd (omega arith)

pub down_both_is : DownBothIsWritten
down_both_is = seven
