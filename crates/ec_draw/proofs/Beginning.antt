-- Where a shade begins.
use Rattle.std.proofs.Common.{◌≡◌, ◌≢◌, ℕ, zero, suc, ◌<◌, ◌==◌, ◌&&◌, ◌||◌, not, Bool, true, false}
use Rattle.std.proofs.Common.{List, [], ◌∷◌, ◌++◌, length, Option, Some, None, refl, ap, sym, ◌∙◌}
use Rattle.std.proofs.Common.{arith, cond, subst, true≢false, reverse, slice_get, inl, inr}
use Rattle.std.proofs.Math.Seq.{take-length}
use Rattle.std.proofs.lemmas.Bool.{and_parts, eqb-true, eqb-false, eq-eqb}
use Rattle.std.specs.Option.{option_map}
use Rattle.ec_count.specs.Tables.{Tables}
use Rattle.ec_core.specs.declared.act.Act.{Act}
use Rattle.ec_core.specs.declared.act.Act.TheVariants.{Go}
use Rattle.ec_core.specs.declared.act.Entry.{Entry}
use Rattle.ec_core.specs.declared.act.Reply.{Reply}
use Rattle.ec_core.specs.declared.act.Reply.TheVariants.{Pending, Done, Number}
use Rattle.ec_core.specs.Calls.{CallSoFar, under_way, call_with_act, is_go, is_pending}
use Rattle.ec_core.specs.Counts.{past_at}
use Rattle.ec_core.specs.Following.{CompletedCall, Rule, block, block_after, opening_act}
use Rattle.ec_core.proofs.shared.Following.{op_at, own_block, other_block}
use Rattle.ec_core.proofs.shared.Moments.{past_next, past_end}
use Rattle.ec_core.proofs.shared.Scans.{call_own, call_other}
use Rattle.ec_database.specs.Shapes.{Database}
use Rattle.ec_database.specs.Following.{is_on, writes, try_rule, write_rule, database_rules}
use Rattle.ec_database.specs.Tries.{AcceptedTry, accepted_of, ended_at}
use Rattle.ec_draw.specs.Shades.{ShadeModel, begins_list, list_start, shade_at, shades_in, span_at}
use Rattle.ec_draw.specs.kept.LeftOut.{concerns_is}
use Rattle.ec_draw.specs.Laws.{BeginsList, ShadesBeginLists}
use Rattle.ec_draw.proofs.Stepping.{long_past}
use Rattle.ec_draw.proofs.Telling.{get_either, shade_of}

-- an act that begins a call sequence is no go, and is on the database
begins_parts : (t : Tables) (d : Database) (w : ℕ) (calls : List CompletedCall) (act : Act)
    → begins_list (database_rules t d w) calls act ≡ true → (calls ≡ []) × (is_go act ≡ false)
    × (is_on d act ≡ true)
begins_parts t d w [] act b =
    (let both = and_parts (not (is_go act)) ((database_rules t d w).concerns [] act) b in
    (refl, no_go (is_go act) both.0, sym (concerns_is t d w act) ∙ both.1))
  where
    no_go : (g : Bool) → not g ≡ true → g ≡ false
    no_go true e = absurd (true≢false (sym e))
    no_go false e = refl
begins_parts t d w (c ∷ calls) act b = absurd (true≢false (sym b))

module _ (t : Tables) (d : Database) (h : List Entry) (w : ℕ) where
  abbrev Rules : Rule
  Rules = database_rules t d w

  abbrev Block : ℕ → List CompletedCall
  Block m = block Rules w (past_at m h)

  -- the call sequence that w is in at moment m was begun at its start
  abbrev IsStarted : ℕ → Type 0
  IsStarted m = BeginsList t d h w m (list_start Rules w (past_at m h))

  -- at entry m the call sequence begins
  starts_here : (m : ℕ) (x : Entry) → slice_get h m ≡ Some x → x.worker ≡ w
      → begins_list Rules (Block m) x.act ≡ true → IsStarted (suc m)
  unfolding list_start
  starts_here m x at own begins =
      let p = past_at m h in
      let start : list_start Rules w (past_at (suc m) h) ≡ m =
      ap (list_start Rules w) (past_next h m x at)
      ∙ ap (λ b. cond (b && begins_list Rules (Block m) x.act) (length p) (list_start Rules w p))
      (eq-eqb x.worker w own)
      ∙ ap (λ b. cond b (length p) (list_start Rules w p)) begins ∙ long_past h m x at in
      let parts = begins_parts t d w (Block m) x.act begins in
      subst (λ i. BeginsList t d h w (suc m) i) (sym start)
      (record {
        entry = x;
        is = at;
        by = own;
        call = parts.1;
        on = parts.2;
        first = parts.0;
        before = omega arith;
        none_since = λ j y after until there by. absurd (omega arith);
      })

  -- entry m begins no call sequence
  starts_before : (m : ℕ) (x : Entry) → slice_get h m ≡ Some x
      → (x.worker ≡ w → begins_list Rules (Block m) x.act ≡ false) → IsStarted m → IsStarted (suc m)
  unfolding list_start
  starts_before m x at none was =
      let p = past_at m h in
      let i = list_start Rules w p in
      let never : (x.worker == w && begins_list Rules (Block m) x.act) ≡ false = by_worker in
      let start : list_start Rules w (past_at (suc m) h) ≡ i =
      ap (list_start Rules w) (past_next h m x at) ∙ ap (λ b. cond b (length p) i) never in
      let before : i < m = was.before in
      subst (λ k. BeginsList t d h w (suc m) k) (sym start)
      (record {
        entry = was.entry;
        is = was.is;
        by = was.by;
        call = was.call;
        on = was.on;
        first = was.first;
        before = omega arith;
        none_since = λ j y after until there by.
            elim (j == m) as (λ b. (j == m) ≡ b → begins_list Rules (Block j) y.act ≡ false) [
              | true ↦ λ e.
                  (let same : j ≡ m = eqb-true j m e in
                  let both : Some y ≡ Some x = sym there ∙ ap (slice_get h) same ∙ at in
                  let one : y ≡ x = cc in
                  ap (λ (z : Entry). begins_list Rules (Block j) z.act) one
                  ∙ ap (λ k. begins_list Rules (Block k) x.act) same
                  ∙ none (ap (λ (z : Entry). z.worker) (sym one) ∙ by))
              | false ↦ λ e. (let other : j ≢ m = eqb-false j m e in
                  was.none_since j y after (omega arith) there by)
            ] refl;
      })
    where
      by_worker : (x.worker == w && begins_list Rules (Block m) x.act) ≡ false
      by_worker = elim (x.worker == w) as (λ b. (x.worker == w) ≡ b
          → (b && begins_list Rules (Block m) x.act) ≡ false) [
            | true ↦ λ e. none (eqb-true x.worker w e)
            | false ↦ λ e. refl
          ] refl

  -- after the last entry
  starts_end : (m : ℕ) → slice_get h m ≡ None → IsStarted m → IsStarted (suc m)
  starts_end m at was =
      let before : list_start Rules w (past_at m h) < m = was.before in
      subst (λ p. BeginsList t d h w (suc m) (list_start Rules w p)) (sym (past_end h m at))
      (record {
        entry = was.entry;
        is = was.is;
        by = was.by;
        call = was.call;
        on = was.on;
        first = was.first;
        before = omega arith;
        none_since = λ j y after until there by.
            elim (j == m) as (λ b. (j == m) ≡ b → begins_list Rules (Block j) y.act ≡ false) [
              | true ↦ λ e. (let same : j ≡ m = eqb-true j m e in
                  let both : Some y ≡ None = sym there ∙ ap (slice_get h) same ∙ at in cc)
              | false ↦ λ e. (let other : j ≢ m = eqb-false j m e in
                  was.none_since j y after (omega arith) there by)
            ] refl;
      })

  -- a call sequence with a completed call, or with a pending one, was begun
  abbrev HasCalls : ℕ → Type 0
  HasCalls m = (c : CompletedCall) (calls : List CompletedCall) → Block m ≡ c ∷ calls → IsStarted m

  abbrev HasCall : ℕ → Type 0
  HasCall m = (call : CallSoFar) → under_way w (past_at m h) ≡ Some call → Block m ≡ []
      → is_on d call.op ≡ true → IsStarted m

  -- an act that begins no call sequence, and is part of a call on the database, continues a call
  from_act : (act : Act) (o : Option CallSoFar) → is_on d (opening_act act o) ≡ true
      → begins_list Rules [] act ≡ false → (call : CallSoFar) × (o ≡ Some call)
      × (is_on d call.op ≡ true)
  from_act Go None on none = absurd (true≢false (sym on))
  from_act Go (Some call) on none = (call, refl, on)
  from_act act o on none = absurd (true≢false (sym on ∙ sym (concerns_is t d w act) ∙ none))

  gone_act : (act : Act) (p : List Entry) (o : Option CallSoFar) (call : CallSoFar)
      → call_with_act act p o ≡ Some call → is_on d call.op ≡ true
      → begins_list Rules [] act ≡ false
      → (k : CallSoFar) × (o ≡ Some k) × (is_on d k.op ≡ true)
  gone_act Go p None call e on none = cc
  gone_act Go p (Some k) call e on none =
      (let one = ap (option_map (λ (c : CallSoFar). c.op)) e in let op : k.op ≡ call.op = cc in
      (k, refl, ap (is_on d) op ∙ on))
  gone_act act p o call e on none =
      (let one = ap (option_map (λ (k : CallSoFar). k.op)) e in
      let op : act ≡ call.op = cc in
      absurd (true≢false (sym on ∙ ap (is_on d) (sym op) ∙ sym (concerns_is t d w act) ∙ none)))

  -- a call that begins a call sequence is on the database
  told_on : (b : Bool) (op : Act) (returned : CompletedCall) (c : CompletedCall) (calls : List CompletedCall)
      → (database_rules t d w).concerns [] op ≡ b
      → cond b (cond (Rules.ends (returned ∷ [])) [] (returned ∷ [])) [] ≡ c ∷ calls
      → is_on d op ≡ true
  told_on true op returned c calls e is = sym (concerns_is t d w op) ∙ e
  told_on false op returned c calls e is = cc

  after_on : (op : Act) (reply : Reply) (c : CompletedCall) (calls : List CompletedCall)
      → block_after Rules [] op reply ≡ c ∷ calls → is_on d op ≡ true
  after_on op Pending c calls is = cc
  after_on op Done c calls is =
      told_on (Rules.concerns [] op) op (record { op = op; reply = Done }) c calls refl is
  after_on op (Number n) c calls is =
      told_on (Rules.concerns [] op) op (record { op = op; reply = Number n }) c calls refl is

  -- before the first entry
  none_yet : HasCalls zero
  unfolding block
  none_yet c calls is = cc

  never_yet : HasCall zero
  unfolding under_way
  never_yet call is blk on = cc

  -- an entry of w that begins no call sequence
  own_calls : (m : ℕ) (x : Entry) → slice_get h m ≡ Some x → x.worker ≡ w
      → begins_list Rules (Block m) x.act ≡ false → HasCalls m → HasCall m → HasCalls (suc m)
  own_calls m x at own none calls_of call_of c calls is =
      starts_before m x at (λ _. none) (by_block (Block m) refl)
    where
      p : List Entry
      p = past_at m h

      step : Block (suc m) ≡ block_after Rules (Block m) (opening_act x.act (under_way w p)) x.reply
      step =
          ap (block Rules w) (past_next h m x at)
          ∙ subst (λ v. block Rules v (x ∷ p) ≡ block_after Rules (block Rules v p)
          (opening_act x.act (under_way v p)) x.reply) own (own_block Rules x p)

      by_block : (b : List CompletedCall) → Block m ≡ b → IsStarted m
      by_block (k ∷ ks) e = calls_of k ks e
      by_block [] e =
          (let after =
          ap (λ b. block_after Rules b (opening_act x.act (under_way w p)) x.reply) (sym e)
          ∙ sym step ∙ is in
          let from = from_act x.act (under_way w p)
          (after_on (opening_act x.act (under_way w p)) x.reply c calls after)
          (ap (λ b. begins_list Rules b x.act) (sym e) ∙ none) in
          call_of from.0 from.1 e from.2)

  own_call : (m : ℕ) (x : Entry) → slice_get h m ≡ Some x → x.worker ≡ w
      → begins_list Rules (Block m) x.act ≡ false → HasCall m → HasCall (suc m)
  own_call m x at own none call_of call is blk on =
      starts_before m x at (λ _. none) (by_reply x.reply refl)
    where
      p : List Entry
      p = past_at m h

      way : under_way w (past_at (suc m) h) ≡ cond (is_pending x.reply)
          (call_with_act x.act p (under_way w p)) None
      way =
          ap (under_way w) (past_next h m x at)
          ∙ subst (λ v. under_way v (x ∷ p) ≡ cond (is_pending x.reply)
          (call_with_act x.act p (under_way v p)) None) own (call_own x p)

      step : Block (suc m) ≡ block_after Rules (Block m) (opening_act x.act (under_way w p)) x.reply
      step =
          ap (block Rules w) (past_next h m x at)
          ∙ subst (λ v. block Rules v (x ∷ p) ≡ block_after Rules (block Rules v p)
          (opening_act x.act (under_way v p)) x.reply) own (own_block Rules x p)

      ended : (o : Option CallSoFar) → o ≡ None → o ≡ Some call → IsStarted m
      ended o gone here = cc

      by_reply : (reply : Reply) → x.reply ≡ reply → IsStarted m
      by_reply Pending e =
          (let same : Block m
          ≡ [] = sym (step ∙ ap (block_after Rules (Block m) (opening_act x.act (under_way w p))) e)
          ∙ blk in
          let goes = sym
          (way ∙ ap (λ r. cond (is_pending r) (call_with_act x.act p (under_way w p)) None) e)
          ∙ is in
          let from = gone_act x.act p (under_way w p) call goes on
          (ap (λ b. begins_list Rules b x.act) (sym same) ∙ none) in
          call_of from.0 from.1 same from.2)
      by_reply Done e =
          ended (under_way w (past_at (suc m) h))
          (way ∙ ap (λ r. cond (is_pending r) (call_with_act x.act p (under_way w p)) None) e) is
      by_reply (Number n) e =
          ended (under_way w (past_at (suc m) h))
          (way ∙ ap (λ r. cond (is_pending r) (call_with_act x.act p (under_way w p)) None) e) is

  -- each call sequence that has calls was begun
  started : (m : ℕ) → HasCalls m × HasCall m
  started zero = (none_yet, never_yet)
  started (suc m) =
      elim (slice_get h m) as (λ o. slice_get h m ≡ o → HasCalls (suc m) × HasCall (suc m)) [
        | None ↦ λ at.
            (let same = past_end h m at in (
              λ c calls is. starts_end m at
                  ((started m).0 c calls (ap (block Rules w) (sym same) ∙ is)),
              λ call is blk on. starts_end m at
                  ((started m).1 call (ap (under_way w) (sym same) ∙ is) (ap (block Rules w) (sym same)
                  ∙ blk) on),
            ))
        | Some x ↦ λ at.
            (elim (x.worker == w) as (λ b. (x.worker == w) ≡ b
            → HasCalls (suc m) × HasCall (suc m)) [
              | false ↦ λ off.
                  (let next = past_next h m x at in
                  let blocks = ap (block Rules w) next ∙ other_block Rules w x (past_at m h) off in
                  let ways = ap (under_way w) next ∙ call_other w x (past_at m h) off in
                  let none : x.worker ≡ w → begins_list Rules (Block m) x.act ≡ false =
                  λ own. absurd (true≢false (sym (eq-eqb x.worker w own) ∙ off)) in (
                    λ c calls is. starts_before m x at none
                        ((started m).0 c calls (sym blocks ∙ is)),
                    λ call is blk on. starts_before m x at none
                        ((started m).1 call (sym ways ∙ is) (sym blocks ∙ blk) on),
                  ))
              | true ↦ λ e.
                  (let own = eqb-true x.worker w e in
                  elim (begins_list Rules (Block m) x.act) as (λ b. begins_list Rules (Block m)
                  x.act ≡ b → HasCalls (suc m) × HasCall (suc m)) [
                    | true ↦ λ begins. (
                      λ c calls is. starts_here m x at own begins,
                      λ call is blk on. starts_here m x at own begins,
                    )
                    | false ↦ λ none. (
                      own_calls m x at own none (started m).0 (started m).1,
                      own_call m x at own none (started m).1,
                    )
                  ] refl)
            ] refl)
      ] refl

-- SHADES

-- an accepted try ends a call sequence of a reader with completed calls
ended_calls : (d : Database) (writers : ℕ → Bool) (x : Entry) (past : List Entry) (a : AcceptedTry)
    → ended_at d writers x past ≡ Some a
    → (a.worker ≡ x.worker) × (writers x.worker ≡ false)
    × ((c : CompletedCall) × (calls : List CompletedCall)
    × (block (try_rule d) x.worker past ≡ c ∷ calls))
ended_calls d writers x past a is = by_writer (writers x.worker) (is_pending x.reply) refl is
  where
    returned : CompletedCall
    returned = record { op = op_at x past; reply = x.reply }

    whole : (b : List CompletedCall) → block (try_rule d) x.worker past ≡ b
        → accepted_of d x.worker (b ++ returned ∷ []) ≡ Some a → (c : CompletedCall)
        × (calls : List CompletedCall)
        × (block (try_rule d) x.worker past ≡ c ∷ calls)
    whole [] e found = cc
    whole (c ∷ calls) e found = (c, calls, e)

    named : (b : Bool) (o : AcceptedTry) → o.worker ≡ x.worker → cond b (Some o) None ≡ Some a
        → a.worker ≡ x.worker
    named true o same e =
        (let one : o ≡ a = cc in ap (λ (z : AcceptedTry). z.worker) (sym one) ∙ same)
    named false o same e = cc

    by_on : (b : Bool) → is_on d (op_at x past) ≡ b
        → cond b (accepted_of d x.worker (block (try_rule d) x.worker past ++ returned ∷ [])) None
        ≡ Some a
        → (a.worker ≡ x.worker)
        × ((c : CompletedCall) × (calls : List CompletedCall)
        × (block (try_rule d) x.worker past ≡ c ∷ calls))
    by_on true on found =
        (named _ _ refl found, whole (block (try_rule d) x.worker past) refl found)
    by_on false on found = cc

    Ended : Option AcceptedTry
    Ended = cond (is_on d (op_at x past))
        (accepted_of d x.worker (block (try_rule d) x.worker past ++ returned ∷ [])) None

    by_writer : (b g : Bool) → writers x.worker ≡ b → cond (b || g) None Ended ≡ Some a
        → (a.worker ≡ x.worker) × (writers x.worker ≡ false)
        × ((c : CompletedCall) × (calls : List CompletedCall)
        × (block (try_rule d) x.worker past ≡ c ∷ calls))
    by_writer true g e found = cc
    by_writer false true e found = cc
    by_writer false false e found =
        (let on = by_on (is_on d (op_at x past)) refl found in (on.0, e, on.1))

shade_begins : (t : Tables) (d : Database) (h : List Entry) (m i : ℕ) (s : ShadeModel)
    → slice_get (shades_in t d (past_at m h)) i ≡ Some s
    → BeginsList t d h s.accepted.worker s.span.last s.span.first
unfolding shades_in
shade_begins t d h zero i s e = cc
shade_begins t d h (suc m) i s e =
    elim (slice_get h m) as (λ o. slice_get h m ≡ o
    → BeginsList t d h s.accepted.worker s.span.last s.span.first) [
      | None ↦ λ at. shade_begins t d h m i s
          (ap (λ p. slice_get (shades_in t d p) i) (sym (past_end h m at)) ∙ e)
      | Some x ↦ λ at.
          (let p = past_at m h in
          elim (get_either (shades_in t d p) (shade_at t d x p) i s
          (ap (λ q. slice_get (shades_in t d q) i) (sym (past_next h m x at)) ∙ e)) [
            | inl early ↦ shade_begins t d h m i s early
            | inr last ↦
                (let r = shade_of d.start t d x p (ended_at d (writes t d) x p) s last in
                let has = ended_calls d (writes t d) x p r.0 r.1 in
                let rules : database_rules t d x.worker ≡ try_rule d =
                ap (λ b. cond b (write_rule d) (try_rule d)) has.1 in
                let calls = ap (λ q. block q x.worker p) rules ∙ has.2.2 in
                let here : BeginsList t d h x.worker m
                (list_start (database_rules t d x.worker) x.worker p) =
                (started t d h x.worker m).0 has.2.0 has.2.1 calls in
                let named : BeginsList t d h r.0.worker (length p) (span_at t d x p).first =
                subst (λ w. BeginsList t d h w (length p)
                (list_start (database_rules t d x.worker) x.worker p)) (sym has.0)
                (subst (λ n. BeginsList t d h x.worker n
                (list_start (database_rules t d x.worker) x.worker p)) (sym (long_past h m x at))
                here) in
                subst (λ (z : ShadeModel). BeginsList t d h z.accepted.worker z.span.last z.span.first)
                r.2 named)
          ])
    ] refl

pub shades_begin : ShadesBeginLists
shades_begin t d h i s e =
    shade_begins t d h (length h) i s
    (ap (λ p. slice_get (shades_in t d (reverse p)) i) (take-length h) ∙ e)
