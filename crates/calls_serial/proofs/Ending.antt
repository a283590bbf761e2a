-- A get's response, from the result of the search to the invariant of the pass.
use Rattle.std.proofs.Common.{◌≡◌, ℕ, zero, suc, ◌+◌, ◌<◌, ◌≤◌, ◌⊎◌, List, []}
use Rattle.std.proofs.Common.{◌∷◌, ◌++◌, length, Option, Some, None, refl, ap, sym, ◌∙◌}
use Rattle.std.proofs.Common.{arith, subst, take, drop, slice_get, length-append}
use Rattle.std.proofs.Common.{true, false, cond}
use Rattle.std.specs.List.{Contains}
use Rattle.std.proofs.lemmas.Option.{same_Some, none-some}
use Rattle.std.proofs.lemmas.List.Elements.{All-contains, Contains-append_left, Contains-push}
use Rattle.calls_core.proofs.Lists.{all_from_each}
use Rattle.std.proofs.lemmas.List.{append_assoc, append-nil}
use Rattle.calls_core.specs.declared.history.Kind.TheVariants.{Cell}
use Rattle.calls_core.specs.declared.history.Op.{Op}
use Rattle.calls_core.specs.declared.history.Op.TheVariants.{Advance, Read, Await, Ticket, P, V}
use Rattle.calls_core.specs.declared.history.Op.TheVariants.{PBoth, Put, Get, Produce, Consume}
use Rattle.calls_core.specs.declared.history.Reply.{Reply}
use Rattle.calls_core.specs.declared.history.Reply.TheVariants.{Done, Number}
use Rattle.calls_core.specs.declared.history.PendingCall.{PendingCall}
use Rattle.calls_core.specs.declared.history.Call.{Call}
use Rattle.calls_core.specs.Lists.{Each}
use Rattle.calls_core.specs.Histories.{without, completion, Takes, Suits}
use Rattle.calls_core.specs.Calls.{Early}
use Rattle.calls_serial.specs.declared.stage.Link.{Link}
use Rattle.calls_serial.specs.Faults.{Leaves}
use Rattle.calls_serial.specs.kept.Stages.{StageView, is_put, IsOver, Begins, gets_of_link, Current, current}
use Rattle.calls_serial.specs.kept.Stages.{open_stage}
use Rattle.calls_serial.specs.kept.Stages.{as_get, current_puts, pending_puts, AreStages, links_with, with_get}
use Rattle.calls_serial.specs.kept.Stages.{with_late, with_response, IsPassed, IsReason, IsAt}
use Rattle.calls_serial.specs.kept.Stages.{IsShutOut, NextLater}
use Rattle.calls_serial.specs.kept.Passing.{first_of, completed_of, IsResponse, IsFitting, Holding}
use Rattle.calls_serial.specs.Outcomes.{AreBothPending}
use Rattle.calls_core.proofs.Positions.{each_call_by}
use Rattle.calls_serial.proofs.Growing.{puts_without, no_put, contains_more}
use Rattle.calls_serial.proofs.Shutting.{left}
use Rattle.calls_serial.proofs.Stepping.{now_put, invoked_other, invoked_put}
use Rattle.calls_serial.proofs.Responding.{placed, late, full}

-- LISTS

pub record IsSplit (prefix cur : List StageView) (i : ℕ) (h : StageView) : Type 0 where
  pub before : List StageView
  pub behind : List StageView
  pub is : prefix ≡ before ++ h ∷ behind
  pub long : length before ≡ i
  pub all : drop (suc i) (prefix ++ cur) ≡ behind ++ cur
  pub own : drop (suc i) prefix ≡ behind

split_front : (prefix cur : List StageView) (i : ℕ) (h : StageView) → i < length prefix
    → slice_get (prefix ++ cur) i ≡ Some h → IsSplit prefix cur i h
split_front [] cur i h lt e = absurd (omega arith)
split_front (a ∷ prefix) cur zero h lt e = record {
  before = [];
  behind = prefix;
  is = ap (λ (z : StageView). z ∷ prefix) (same_Some a h e);
  long = refl;
  all = refl;
  own = refl;
}
split_front (a ∷ prefix) cur (suc i) h lt e =
    let s = split_front prefix cur i h (omega arith) e in
    record {
      before = a ∷ s.before;
      behind = s.behind;
      is = ap (λ zs. a ∷ zs) s.is;
      long = (let l = s.long in omega arith);
      all = s.all;
      own = s.own;
    }

take_front : (prefix cur : List StageView) → take (length prefix) (prefix ++ cur) ≡ prefix
take_front [] [] = refl
take_front [] (x ∷ cur) = refl
take_front (a ∷ prefix) cur = ap (λ zs. a ∷ zs) (take_front prefix cur)

-- HOW MANY ARE COMPLETED

module _ (end t : ℕ) (done : List Call) (pending : List PendingCall) (w at : ℕ)
    (o : PendingCall) (hs : List StageView) (ls : List Link)
    (g : IsResponse end t done pending w at o) (get : o.op ≡ Get)
    (k : Holding end t done pending hs ls) where
  pub completed_is : (more : List PendingCall) (m n : ℕ) → more ≡ without w pending
      → n ≡ length hs → m ≡ completed_of (first_of (pending_puts more)) n
      → m ≡ length k.prefix
  completed_is more m n e long is =
      is ∙ ap (λ os. completed_of (first_of os) n)
      (ap pending_puts e ∙ puts_without w pending o g.ours (ap is_put get) ∙ k.represents.puts)
      ∙ ap (completed_of (first_of (current_puts k.now))) (long ∙ ap length k.all)
      ∙ by k.now
    where
      by : (now : Option Current) → completed_of (first_of (current_puts now))
          (length (k.prefix ++ current now)) ≡ length k.prefix
      by None = ap length (append-nil k.prefix)
      by (Some c) = omega (arith, length-append k.prefix (c.stage ∷ []))

  pub begins_taken : (m : ℕ) → m ≡ length k.prefix → Begins (take m hs)
  begins_taken m e =
      subst Begins (sym (ap (λ n. take n hs) e ∙ ap (take (length k.prefix)) k.all
      ∙ take_front k.prefix (current k.now))) k.represents.begins

  module _ (x m : ℕ) (r : Reply) (number : r ≡ Number x) (many : m ≡ length k.prefix) where
    abbrev own : Call
    own = completion at r o

    split_at : (i : ℕ) (h : StageView) → i < m → slice_get hs i ≡ Some h
        → IsSplit k.prefix (current k.now) i h
    split_at i h lt e = split_front k.prefix (current k.now) i h (omega arith)
        (ap (λ zs. slice_get zs i) (sym k.all) ∙ e)

    -- it is a get of its stage's value
    as_own : (v : ℕ) → v ≡ x → as_get v own ≡ own
    as_own v e = (let op = get in let reply = number in cc)

    -- A COMPLETED PUT'S VALUE

    pub placed_in : (i : ℕ) (more : List StageView) → IsAt hs m o.first x i
        → ((prefix : List StageView) (h : StageView) (back : List StageView) → length prefix ≡ i
        → hs ≡ prefix ++ h ∷ back
        → more ≡ prefix ++ with_get (as_get h.value (completion at r o)) h ∷ back)
        → Holding end (at + 1) (completion at r o ∷ done) (without w pending) more ls
    placed_in i more a adds =
        (let s = split_at i a.stage a.within a.here in
        let whole : hs ≡ s.before ++ a.stage ∷ (s.behind ++ current k.now) =
        k.all ∙ ap (λ zs. zs ++ current k.now) s.is
        ∙ append_assoc s.before (a.stage ∷ s.behind) (current k.now) in
        record {
          prefix = s.before ++ with_get (completion at r o) a.stage ∷ s.behind;
          now = k.now;
          all = adds s.before a.stage (s.behind ++ current k.now) s.long whole
              ∙ ap (λ c. s.before ++ with_get c a.stage ∷ (s.behind ++ current k.now))
              (as_own a.stage.value a.value)
              ∙ sym (append_assoc s.before (with_get (completion at r o) a.stage ∷ s.behind)
              (current k.now));
          represents =
              placed end t done pending ls w at r o g.ours g.early g.waiting g.later g.before
              s.before a.stage s.behind k.now x get number a.value
              (subst (λ zs. (IsOver o.first a.stage.put → ⊥) ⊎ NextLater o.first zs)
              (ap (drop (suc i)) k.all ∙ s.all) a.may)
              (subst (λ f. AreStages end t done pending f k.now ls) s.is k.represents);
        })

    -- NO COMPLETED PUT'S VALUE

    abbrev pub LeavesAs : Option ℕ → Option ℕ → Type 0
    LeavesAs because f = Leaves (completion at r o ∷ done) (without w pending)
        (completion at r o ∷ gets_of_link because ls) f

    shut_out : (because : Option ℕ) → IsShutOut hs m o.first x because → (f : Option ℕ)
        → ((c : Current) → k.now ≡ Some c → c.call.op ≡ Put x → f ≡ Some c.call.first)
        → LeavesAs because f
    shut_out because s f pends =
        (let p = split_at s.index s.stage s.within s.here in
        left end t done pending p.before s.stage p.behind k.now ls
        (subst (λ z. AreStages end t done pending z k.now ls) p.is k.represents) g.early w at x r o g.ours
        get number (each_call_by (Early t) w pending o g.waiting g.ours) g.later g.before s.over
        (subst (Each (IsPassed o.first x))
        (ap (λ n. drop (suc s.index) (take n hs)) many
        ∙ ap (λ zs. drop (suc s.index) (take (length k.prefix) zs)) k.all
        ∙ ap (drop (suc s.index)) (take_front k.prefix (current k.now)) ∙ p.own) s.passed)
        because
        (subst (λ zs. IsReason o.first x s.stage zs because)
        (ap (drop (suc s.index)) k.all ∙ p.all) s.reason) f pends)

    pub late_in : (because : Option ℕ) → IsShutOut hs m o.first x because → m < length hs
        → ((h : StageView) → slice_get hs m ≡ Some h → h.value ≡ x)
        → (more : List StageView) (links : List Link) (n : ℕ) → n ≡ length ls
        → ((prefix : List StageView) (h : StageView) → hs ≡ prefix ++ h ∷ []
        → (more ≡ prefix ++ with_late (as_get h.value (completion at r o)) n h ∷ [])
        × (links ≡ links_with h.link (record { get = completion at r o; because = because }) ls))
        → Holding end (at + 1) (completion at r o ∷ done) (without w pending) more links
    late_in because s lt value more links n long adds = by k.now refl
      where
        by : (now : Option Current) → k.now ≡ now
            → Holding end (at + 1) (completion at r o ∷ done) (without w pending) more links
        by None e = absurd (omega (
          arith,
          ap length k.all,
          ap (λ z. length (k.prefix ++ current z)) e,
          ap length (append-nil k.prefix),
        ))
        by (Some c) e =
            (let all : hs ≡ k.prefix ++ c.stage ∷ [] =
            k.all ∙ ap (λ z. k.prefix ++ current z) e in
            let a = adds k.prefix c.stage all in
            let represents : AreStages end t done pending k.prefix (Some c) ls =
            subst (λ z. AreStages end t done pending k.prefix z ls) e k.represents in
            let worth : c.stage.value ≡ x =
            value c.stage (ap (λ i. slice_get hs i) many
            ∙ ap (λ zs. slice_get zs (length k.prefix)) all ∙ current_at k.prefix c.stage) in
            let leaves : LeavesAs because (Some c.call.first) =
            shut_out because s (Some c.call.first)
            (λ d is op. ap (λ (z : Current). Some z.call.first)
            (same_Some c d (sym e ∙ is))) in
            record {
              prefix = k.prefix;
              now = Some (record {
                call = c.call;
                stage = with_late (completion at r o) (length ls) c.stage;
              });
              all = a.0 ∙ ap (λ z. k.prefix ++ with_late z n c.stage ∷ [])
                  (as_own c.stage.value worth) ∙ ap (λ i. k.prefix ++ with_late (completion at r o) i c.stage ∷ []) long;
              represents = subst
                  (λ zs. AreStages end (at + 1) (completion at r o ∷ done) (without w pending) k.prefix
                  (Some (record {
                    call = c.call;
                    stage = with_late (completion at r o) (length ls)
                        c.stage;
                  })) zs) (sym a.1)
                  (late end t done pending ls w at r o g.ours g.early g.waiting g.later g.before
                  k.prefix c represents x get number worth because leaves);
            })
          where
            current_at : (prefix : List StageView) (h : StageView)
                → slice_get (prefix ++ h ∷ []) (length prefix) ≡ Some h
            current_at [] h = refl
            current_at (a ∷ prefix) h = current_at prefix h

    pub fault_in : (because : Option ℕ) → IsShutOut hs m o.first x because
        → (m < length hs → (h : StageView) → slice_get hs m ≡ Some h → h.value ≡ x → ⊥)
        → LeavesAs because None
    fault_in because s other = shut_out because s None (λ c e op. absurd (by c e op))
      where
        by : (c : Current) → k.now ≡ Some c → c.call.op ≡ Put x → ⊥
        by c e op =
            (let all : hs ≡ k.prefix ++ c.stage ∷ [] =
            k.all ∙ ap (λ z. k.prefix ++ current z) e in
            let represents : AreStages end t done pending k.prefix (Some c) ls =
            subst (λ z. AreStages end t done pending k.prefix z ls) e k.represents in
            let put = now_put end t done pending k.prefix ls c represents in
            let value : Put c.stage.value ≡ Put x = sym put.op ∙ op in
            other (omega (arith, many, ap length all, length-append k.prefix (c.stage ∷ [])))
            c.stage (ap (λ i. slice_get hs i) many
            ∙ ap (λ zs. slice_get zs (length k.prefix)) all ∙ here k.prefix c.stage) (cc))
          where
            here : (prefix : List StageView) (h : StageView)
                → slice_get (prefix ++ h ∷ []) (length prefix) ≡ Some h
            here [] h = refl
            here (a ∷ prefix) h = here prefix h

    -- the same for a get that is given by an equation
    pub placed_for : (z : Call) → z ≡ completion at r o → (i : ℕ) (more : List StageView)
        → IsAt hs m z.first x i
        → ((prefix : List StageView) (h : StageView) (back : List StageView) → length prefix ≡ i
        → hs ≡ prefix ++ h ∷ back → more ≡ prefix ++ with_get (as_get h.value z) h ∷ back)
        → Holding end (at + 1) (z ∷ done) (without w pending) more ls
    placed_for z e i more =
        subst (λ (y : Call). IsAt hs m y.first x i
        → ((prefix : List StageView) (h : StageView) (back : List StageView) → length prefix ≡ i
        → hs ≡ prefix ++ h ∷ back → more ≡ prefix ++ with_get (as_get h.value y) h ∷ back)
        → Holding end (at + 1) (y ∷ done) (without w pending) more ls) (sym e) (placed_in i more)

    pub late_for : (z : Call) → z ≡ completion at r o → (because : Option ℕ)
        → IsShutOut hs m z.first x because → m < length hs
        → ((h : StageView) → slice_get hs m ≡ Some h → h.value ≡ x)
        → (more : List StageView) (links : List Link) (n : ℕ) → n ≡ length ls
        → ((prefix : List StageView) (h : StageView) → hs ≡ prefix ++ h ∷ []
        → (more ≡ prefix ++ with_late (as_get h.value z) n h ∷ [])
        × (links ≡ links_with h.link (record { get = z; because = because }) ls))
        → Holding end (at + 1) (z ∷ done) (without w pending) more links
    late_for z e because =
        subst (λ (y : Call). IsShutOut hs m y.first x because → m < length hs
        → ((h : StageView) → slice_get hs m ≡ Some h → h.value ≡ x)
        → (more : List StageView) (links : List Link) (n : ℕ) → n ≡ length ls
        → ((prefix : List StageView) (h : StageView) → hs ≡ prefix ++ h ∷ []
        → (more ≡ prefix ++ with_late (as_get h.value y) n h ∷ [])
        × (links ≡ links_with h.link (record { get = y; because = because }) ls))
        → Holding end (at + 1) (y ∷ done) (without w pending) more links) (sym e)
        (late_in because)

    pub fault_for : (z : Call) → z ≡ completion at r o → (because : Option ℕ)
        → IsShutOut hs m z.first x because
        → (m < length hs → (h : StageView) → slice_get hs m ≡ Some h → h.value ≡ x → ⊥)
        → Leaves (z ∷ done) (without w pending) (z ∷ gets_of_link because ls) None
    fault_for z e because =
        subst (λ (y : Call). IsShutOut hs m y.first x because
        → (m < length hs → (h : StageView) → slice_get hs m ≡ Some h → h.value ≡ x → ⊥)
        → Leaves (y ∷ done) (without w pending) (y ∷ gets_of_link because ls) None) (sym e)
        (fault_in because)

-- A PUT'S RESPONSE

put_fits : (op : Op) → Takes (Some Cell) op → Suits op Done → is_put op ≡ true
put_fits (Put v) t s = refl
put_fits Get t s = absurd s
put_fits Advance t s = absurd t
put_fits Read t s = absurd t
put_fits (Await v) t s = absurd t
put_fits Ticket t s = absurd t
put_fits (P i) t s = absurd t
put_fits (V i) t s = absurd t
put_fits (PBoth i j) t s = absurd t
put_fits (Produce v) t s = absurd t
put_fits Consume t s = absurd t

pub completed_in : (end t : ℕ) (done : List Call) (pending : List PendingCall) (w at : ℕ)
    (r : Reply) (o : PendingCall) (hs more : List StageView) (ls : List Link)
    → IsResponse end t done pending w at o → IsFitting o r → r ≡ Done
    → Holding end t done pending hs ls → (z : Call) → z ≡ completion at r o
    → ((prefix : List StageView) (h : StageView) → hs ≡ prefix ++ h ∷ []
    → more ≡ prefix ++ with_response z h ∷ [])
    → Holding end (at + 1) (z ∷ done) (without w pending) more ls
completed_in end t done pending w at r o hs more ls g f is k z same =
    subst (λ (y : Call). ((prefix : List StageView) (h : StageView) → hs ≡ prefix ++ h ∷ []
    → more ≡ prefix ++ with_response y h ∷ [])
    → Holding end (at + 1) (y ∷ done) (without w pending) more ls) (sym same)
    (λ adds. by k.now refl adds)
  where
    put : is_put o.op ≡ true
    put = put_fits o.op f.takes (subst (Suits o.op) is f.suits)

    by : (now : Option Current) → k.now ≡ now
        → ((prefix : List StageView) (h : StageView) → hs ≡ prefix ++ h ∷ []
        → more ≡ prefix ++ with_response (completion at r o) h ∷ [])
        → Holding end (at + 1) (completion at r o ∷ done) (without w pending) more ls
    by None e adds = absurd (no_put w pending o g.ours put
        (k.represents.puts ∙ ap current_puts e))
    by (Some c) e adds =
        (let represents : AreStages end t done pending k.prefix (Some c) ls =
        subst (λ n. AreStages end t done pending k.prefix n ls) e k.represents in
        record {
          prefix = k.prefix ++ with_response (completion at r o) c.stage ∷ [];
          now = None;
          all = adds k.prefix c.stage (k.all ∙ ap (λ n. k.prefix ++ current n) e)
              ∙ sym (append-nil (k.prefix ++ with_response (completion at r o) c.stage ∷ []));
          represents = full end t done pending ls w at r o g.ours g.early g.waiting g.later g.before
              k.prefix c represents put is;
        })

-- INVOCATIONS

pub other_in : (end t : ℕ) (done : List Call) (pending : List PendingCall) (o : PendingCall)
    (hs : List StageView) (ls : List Link) → Each (λ (c : Call). c.last < t) done → t ≤ o.first
    → is_put o.op ≡ false → Holding end t done pending hs ls
    → Holding end (o.first + 1) done (pending ++ o ∷ []) hs ls
other_in end t done pending o hs ls early le other k = record {
  prefix = k.prefix;
  now = k.now;
  all = k.all;
  represents = invoked_other end t done pending k.prefix ls k.now o early le other k.represents;
}

pub put_in : (end t : ℕ) (done : List Call) (pending : List PendingCall) (o : PendingCall) (v : ℕ)
    (hs more : List StageView) (ls : List Link) → Each (λ (c : Call). c.last < t) done → t ≤ o.first
    → o.first < end → o.op ≡ Put v → first_of (pending_puts pending) ≡ None
    → more ≡ hs ++ open_stage end v o ∷ [] → Holding end t done pending hs ls
    → Holding end (o.first + 1) done (pending ++ o ∷ []) more ls
put_in end t done pending o v hs more ls early le lt op none is k =
    by k.now refl
  where
    by : (now : Option Current) → k.now ≡ now
        → Holding end (o.first + 1) done (pending ++ o ∷ []) more ls
    by None e = record {
      prefix = k.prefix;
      now = Some (record { call = o; stage = open_stage end v o });
      all = is ∙ ap (λ zs. zs ++ open_stage end v o ∷ []) (k.all
          ∙ ap (λ n. k.prefix ++ current n) e ∙ append-nil k.prefix);
      represents = invoked_put end t done pending k.prefix ls o v early le lt op
          (subst (λ n. AreStages end t done pending k.prefix n ls) e k.represents);
    }
    by (Some c) e = absurd (let no : Some c.call ≡ None =
        sym (ap first_of (k.represents.puts ∙ ap current_puts e)) ∙ none in cc)

is_put_value : (op : Op) → is_put op ≡ true → (v : ℕ) × (op ≡ Put v)
is_put_value (Put v) e = (v, refl)
is_put_value Get e = absurd (let no : false ≡ true = e in cc)
is_put_value Advance e = absurd (let no : false ≡ true = e in cc)
is_put_value Read e = absurd (let no : false ≡ true = e in cc)
is_put_value (Await v) e = absurd (let no : false ≡ true = e in cc)
is_put_value Ticket e = absurd (let no : false ≡ true = e in cc)
is_put_value (P i) e = absurd (let no : false ≡ true = e in cc)
is_put_value (V i) e = absurd (let no : false ≡ true = e in cc)
is_put_value (PBoth i j) e = absurd (let no : false ≡ true = e in cc)
is_put_value (Produce v) e = absurd (let no : false ≡ true = e in cc)
is_put_value Consume e = absurd (let no : false ≡ true = e in cc)

first_put : (os : List PendingCall) (o : PendingCall) → first_of (pending_puts os) ≡ Some o
    → Contains os o × (is_put o.op ≡ true)
first_put [] o e = absurd (none-some o e)
first_put (p ∷ os) o e =
    elim (is_put p.op) as (λ b. is_put p.op ≡ b
    → first_of (cond b (p ∷ pending_puts os) (pending_puts os)) ≡ Some o
    → Contains (p ∷ os) o × (is_put o.op ≡ true)) [
      | true ↦ λ own is. (
        (zero, omega arith, same_Some p o is),
        ap (λ (z : PendingCall). is_put z.op) (sym (same_Some p o is)) ∙ own,
      )
      | false ↦ λ own is. (let r = first_put os o is in (contains_more p o os r.0, r.1))
    ] refl e

pub both_pending : (t : ℕ) (pending : List PendingCall) (o p : PendingCall) (v : ℕ)
    → Each (Early t) pending → t ≤ p.first → p.op ≡ Put v
    → first_of (pending_puts pending) ≡ Some o → AreBothPending (pending ++ p ∷ []) o p
both_pending t pending o p v early le op e =
    let f = first_put pending o e in
    let value = is_put_value o.op f.1 in
    let before : o.first < t = All-contains (Early t) pending o
    (all_from_each (Early t) pending early) f.0 in
    record {
      one = Contains-append_left pending (p ∷ []) o f.0;
      other = Contains-push pending p;
      one_value = value.0;
      other_value = v;
      one_put = value.1;
      other_put = op;
      order = omega arith;
    }
