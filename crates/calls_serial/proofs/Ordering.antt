-- The calls of stages, in their order, are a linearization.
use Rattle.std.proofs.Common.{◌≡◌, ℕ, ◌<◌, ◌≤◌, Bool, true, false, cond, List, [], ◌∷◌}
use Rattle.std.proofs.Common.{◌++◌, map, Option, Some, None, refl, ap, sym, ◌∙◌, arith}
use Rattle.std.proofs.Common.{subst}
use Rattle.std.specs.List.Sorted.{IsPermutation}
use Rattle.std.proofs.lemmas.List.{append-nil, append_assoc}
use Rattle.std.proofs.lemmas.List.Sorted.{IsPermutation-cons}
use Rattle.std.proofs.lemmas.List.Sorted.{IsPermutation-trans, IsPermutation-sym}
use Rattle.std.proofs.lemmas.List.Sorted.{IsPermutation-middle}
use Rattle.calls_core.specs.declared.history.Op.{Op}
use Rattle.calls_core.specs.declared.history.Op.TheVariants.{Put, Get}
use Rattle.calls_core.specs.declared.history.Reply.{Reply}
use Rattle.calls_core.specs.declared.history.Reply.TheVariants.{Done, Number}
use Rattle.calls_core.specs.declared.history.PendingCall.{PendingCall}
use Rattle.calls_core.specs.declared.history.Call.{Call}
use Rattle.calls_core.specs.Lists.{Each, EachPair}
use Rattle.calls_core.specs.Histories.{completion}
use Rattle.calls_core.specs.Linearizations.{Gives, after, IsLegalHistory, Precedes, KeepsOrder}
use Rattle.calls_core.specs.Linearizations.{answered_one, answered_calls, IsLinearOrder}
use Rattle.calls_core.proofs.Lists.{each_weaker, each_append, each_both}
use Rattle.calls_core.proofs.Lists.{each_pair_append, all_pairs_from_each}
use Rattle.calls_core.proofs.Filters.{permutation_same}
use Rattle.calls_serial.specs.kept.Stages.{StageView, put_calls, held_calls, all_calls, is_put}
use Rattle.calls_serial.specs.kept.Stages.{put_answer}
use Rattle.calls_serial.specs.kept.Stages.{IsGot, IsStored, Sooner, IsHeld}
use Rattle.calls_serial.specs.kept.Stages.{Follows}
use Rattle.calls_serial.specs.kept.Stages.{Current, current, current_gets, current_puts}
use Rattle.calls_serial.specs.kept.Stages.{IsCurrent, pending_puts}

-- LISTS

pub each_every : {X : Type 0} (P : X → Type 0) → ((x : X) → P x) → (xs : List X) → Each P xs
each_every P f [] = tt
each_every P f (x ∷ xs) = (f x, each_every P f xs)

pub all_calls_append : (gs hs : List StageView) → all_calls (gs ++ hs) ≡ all_calls gs
    ++ all_calls hs
all_calls_append [] hs = refl
all_calls_append (g ∷ gs) hs =
    ap (λ zs. held_calls g ++ zs) (all_calls_append gs hs)
    ∙ sym (append_assoc (held_calls g) (all_calls gs) (all_calls hs))

-- THE REAL-TIME ORDER

abbrev pub StartsBy : ℕ → Call → Type 0
StartsBy n c = c.first ≤ n

abbrev pub EndsFrom : ℕ → Call → Type 0
EndsFrom n c = n ≤ c.last

-- calls invoked up to position n may be before calls that respond from n on
across : (n : ℕ) (xs ys : List Call) → Each (StartsBy n) xs → Each (EndsFrom n) ys
    → Each (λ (x : Call). Each (KeepsOrder x) ys) xs
across n [] ys h k = tt
across n (x ∷ xs) ys h k = (
  let le : x.first ≤ n = h.0 in
      each_weaker (EndsFrom n) (KeepsOrder x) (λ y e lt. omega arith) ys k,
  across n xs ys h.1 k,
)

put_starts : (v m n : ℕ) (put : Option Call) → IsStored v m put → m ≤ n
    → Each (StartsBy n) (put_calls put)
put_starts v m n None s le = tt
put_starts v m n (Some p) s le = (let lt = s.first in omega arith, tt)

pub starts : (t : ℕ) (a b : StageView) → IsHeld t a → Follows a b
    → Each (StartsBy b.moment) (held_calls a)
starts t a b h f =
    each_append (StartsBy b.moment) (put_calls a.put) a.gets
    (put_starts a.value a.moment b.moment a.put h.put f.moments) f.gets

put_ends : (v m : ℕ) (put : Option Call) → IsStored v m put → Each (EndsFrom m) (put_calls put)
put_ends v m None s = tt
put_ends v m (Some p) s = (s.last, tt)

pub ends : (t : ℕ) (h : StageView) → IsHeld t h → Each (EndsFrom h.moment) (held_calls h)
ends t h k =
    each_append (EndsFrom h.moment) (put_calls h.put) h.gets
    (put_ends h.value h.moment h.put k.put)
    (each_weaker (IsGot h.value h.moment t) (EndsFrom h.moment) (λ g e. e.after) h.gets k.gets)

gets_keep : (v m t : ℕ) (gs : List Call) → Each (IsGot v m t) gs → EachPair Sooner gs
    → EachPair KeepsOrder gs
gets_keep v m t [] h s = tt
gets_keep v m t (g ∷ gs) h s = (
  let own = h.0.lasts in
      each_weaker (Sooner g) (KeepsOrder g) (λ k a lt. soon g k own a lt) gs s.0,
  gets_keep v m t gs h.1 s.1,
)
  where
    soon : (a b : Call) → a.first < a.last → Sooner a b → Precedes b a → ⊥
    soon a b own later lt =
        (let l : a.last < b.last = later in let k : b.last < a.first = lt in omega arith)

own_keep : (v m t : ℕ) (put : Option Call) (gs : List Call) → IsStored v m put
    → Each (IsGot v m t) gs → EachPair Sooner gs → EachPair KeepsOrder (put_calls put ++ gs)
own_keep v m t None gs s h k = gets_keep v m t gs h k
own_keep v m t (Some p) gs s h k = (
  each_weaker (IsGot v m t) (KeepsOrder p) (λ g e. late p g m s.first e.after) gs h,
  gets_keep v m t gs h k,
)
  where
    late : (p g : Call) (m : ℕ) → p.first < m → m ≤ g.last → Precedes g p → ⊥
    late p g m a b lt = (let l : g.last < p.first = lt in omega arith)

across_all : (t : ℕ) (a : StageView) (hs : List StageView) → IsHeld t a → Each (Follows a) hs
    → Each (IsHeld t) hs → Each (λ (x : Call). Each (KeepsOrder x) (all_calls hs)) (held_calls a)
across_all t a [] own f h =
    each_every (λ (x : Call). Each (KeepsOrder x) []) (λ x. tt) (held_calls a)
across_all t a (b ∷ hs) own f h =
    each_both (λ (x : Call). Each (KeepsOrder x) (held_calls b))
    (λ (x : Call). Each (KeepsOrder x) (all_calls hs))
    (λ (x : Call). Each (KeepsOrder x) (held_calls b ++ all_calls hs))
    (λ x p q. each_append (KeepsOrder x) (held_calls b) (all_calls hs) p q) (held_calls a)
    (across b.moment (held_calls a) (held_calls b) (starts t a b own f.0) (ends t b h.0))
    (across_all t a hs own f.1 h.1)

pub keeps : (t : ℕ) (hs : List StageView) → Each (IsHeld t) hs → EachPair Follows hs
    → EachPair KeepsOrder (all_calls hs)
keeps t [] h f = tt
keeps t (a ∷ hs) h f =
    each_pair_append KeepsOrder (held_calls a) (all_calls hs)
    (own_keep a.value a.moment t a.put a.gets h.0.put h.0.gets h.0.sorted)
    (keeps t hs h.1 f.1) (across_all t a hs h.0 f.0 h.1)

-- THE ORDER IS A LEGAL SEQUENTIAL HISTORY

get_runs : (m : ℕ → ℕ) (v : ℕ) (op : Op) (r : Reply) → op ≡ Get → r ≡ Number v → m 0 ≡ v
    → Gives m op r × (after m op r ≡ m)
get_runs m v op r e f z =
    subst (λ o. Gives m o r × (after m o r ≡ m)) (sym e)
    (f ∙ ap Number (sym z), refl)

gets_run : (m : ℕ → ℕ) (v n t : ℕ) (gs rest : List Call) → m 0 ≡ v → Each (IsGot v n t) gs
    → IsLegalHistory m rest → IsLegalHistory m (gs ++ rest)
gets_run m v n t [] rest z h run = run
gets_run m v n t (g ∷ gs) rest z h run =
    let s = get_runs m v g.op g.reply h.0.op h.0.reply z in (
      s.0,
      subst (λ f. IsLegalHistory f (gs ++ rest)) (sym s.1)
          (gets_run m v n t gs rest z h.1 run),
    )

put_runs : (m : ℕ → ℕ) (v : ℕ) (op : Op) (r : Reply) → op ≡ Put v → r ≡ Done
    → Gives m op r × (after m op r 0 ≡ v)
put_runs m v op r e f = subst (λ o. Gives m o r × (after m o r 0 ≡ v)) (sym e) (f, refl)

held_runs : (m : ℕ → ℕ) (v n t : ℕ) (put : Option Call) (gs rest : List Call) → IsStored v n put
    → Each (IsGot v n t) gs → (put ≡ None → m 0 ≡ 0)
    → ((f : ℕ → ℕ) → IsLegalHistory f rest) → IsLegalHistory m ((put_calls put ++ gs) ++ rest)
held_runs m v n t None gs rest s h z run =
    gets_run m v n t gs rest (z refl ∙ sym s.0) h (run m)
held_runs m v n t (Some p) gs rest s h z run =
    let k = put_runs m v p.op p.reply s.op s.reply in
    (k.0, gets_run (after m p.op p.reply) v n t gs rest k.1 h (run (after m p.op p.reply)))

-- the calls of stages that all have a put are legal from any state
rest_runs : (t : ℕ) (m : ℕ → ℕ) (hs : List StageView) → Each (IsHeld t) hs
    → Each (λ (h : StageView). (p : Call) × (h.put ≡ Some p)) hs → IsLegalHistory m (all_calls hs)
rest_runs t m [] h p = tt
rest_runs t m (a ∷ hs) h p =
    held_runs m a.value a.moment t a.put a.gets (all_calls hs) h.0.put h.0.gets
    (λ e. absurd (let no : None ≡ Some p.0.0 = sym e ∙ p.0.1 in cc))
    (λ f. rest_runs t f hs h.1 p.1)

pub runs : (t : ℕ) (m : ℕ → ℕ) (hs : List StageView) → Each (IsHeld t) hs → EachPair Follows hs
    → m 0 ≡ 0 → IsLegalHistory m (all_calls hs)
runs t m [] h f z = tt
runs t m (a ∷ hs) h f z =
    held_runs m a.value a.moment t a.put a.gets (all_calls hs) h.0.put h.0.gets (λ e. z)
    (λ g. rest_runs t g hs h.1
    (each_weaker (Follows a) (λ (b : StageView). (p : Call)
    × (b.put ≡ Some p)) (λ b k. (k.put, k.is)) hs
    f.0))

-- PENDING PUTS ARE ANSWERED

answered_step : (t : ℕ) (o : PendingCall) (os : List PendingCall) (b : Bool)
    → answered_one t o (cond b (Some Done) None) ++ map (completion t Done) os
    ≡ map (completion t Done) (cond b (o ∷ os) os)
answered_step t o os true = refl
answered_step t o os false = refl

answered_puts : (t : ℕ) (os : List PendingCall)
    → answered_calls t put_answer os ≡ map (completion t Done) (pending_puts os)
answered_puts t [] = refl
answered_puts t (o ∷ os) =
    ap (λ zs. answered_one t o (put_answer o) ++ zs) (answered_puts t os)
    ∙ answered_step t o (pending_puts os) (is_put o.op)

current_once : (end : ℕ) (done : List Call) (stages : List StageView) (now : Option Current)
    → IsCurrent end now → IsPermutation done (all_calls stages ++ current_gets now)
    → IsPermutation (map (completion end Done) (current_puts now) ++ done)
    (all_calls (stages ++ current now))
current_once end done stages None p h =
    IsPermutation-trans _ _ _ h (permutation_same _ _
    (sym (all_calls_append stages [])))
current_once end done stages (Some k) p h =
    IsPermutation-trans _ _ _ (IsPermutation-cons (completion end Done k.call) _ _ h)
    (IsPermutation-trans _ _ _
    (IsPermutation-sym _ _
    (IsPermutation-middle (all_calls stages) (completion end Done k.call) k.stage.gets))
    (permutation_same _ _
    (ap (λ zs. all_calls stages ++ completion end Done k.call ∷ zs) (sym (append-nil k.stage.gets))
    ∙ ap (λ put. all_calls stages ++ ((put_calls put ++ k.stage.gets) ++ [])) (sym p)
    ∙ sym (all_calls_append stages (k.stage ∷ [])))))

pub ordered : (end t : ℕ) (done : List Call) (os : List PendingCall) (stages : List StageView)
    (now : Option Current) → Each (IsHeld t) (stages ++ current now)
    → EachPair Follows (stages ++ current now) → IsCurrent end now
    → pending_puts os ≡ current_puts now
    → IsPermutation done (all_calls stages ++ current_gets now)
    → IsLinearOrder (IsLegalHistory (λ i. 0)) done os end (all_calls (stages ++ current now))
ordered end t done os stages now each pairs put puts once = record {
  answer = put_answer;
  each_once = subst
      (λ zs. IsPermutation (zs ++ done) (all_calls (stages ++ current now)))
      (sym (answered_puts end os ∙ ap (map (completion end Done)) puts))
      (current_once end done stages now put once);
  in_order = all_pairs_from_each KeepsOrder (all_calls (stages ++ current now))
      (keeps t (stages ++ current now) each pairs);
  run = runs t (λ i. 0) (stages ++ current now) each pairs refl;
}
