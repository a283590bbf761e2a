-- Every history has a linearization, shows a fault, or shows why it isn't decided.
use Rattle.std.proofs.Common.{◌≡◌, ℕ, ◌+◌, count_by, ◌⊎◌, inl, inr, true, List, [], ◌∷◌}
use Rattle.std.proofs.Common.{Bool, false, refl, ap, sym, ◌∙◌, arith, subst}
use Rattle.std.specs.List.{Contains}
use Rattle.std.proofs.lemmas.Bool.{cases_lt, cases_eq, leb-true}
use Rattle.calls_core.specs.declared.history.Kind.TheVariants.{Cell}
use Rattle.calls_core.specs.declared.history.Op.{Op}
use Rattle.calls_core.specs.declared.history.Op.TheVariants.{Advance, Read, Await, Ticket, P, V}
use Rattle.calls_core.specs.declared.history.Op.TheVariants.{PBoth, Put, Get, Produce, Consume}
use Rattle.calls_core.specs.declared.history.Event.{Event}
use Rattle.calls_core.specs.declared.history.PendingCall.{PendingCall}
use Rattle.calls_core.specs.declared.history.Call.{Call}
use Rattle.calls_core.specs.Lists.{Each}
use Rattle.calls_core.specs.Histories.{clock, IsHistoryOf, completed_calls, pending_calls}
use Rattle.calls_core.specs.Outcomes.{HasOrderOf}
use Rattle.calls_distinct.specs.Cells.{value, gets, is_got, times, IsDistinct, IsDistinctHistory}
use Rattle.calls_distinct.proofs.Faults.{some_one}
use Rattle.calls_distinct.proofs.Checked.{gets_parts}
use Rattle.calls_distinct.proofs.Existing.{every_one_decided}
use Rattle.calls_serial.specs.Outcomes.{AreBothPending}
use Rattle.calls_serial.specs.Laws.{IsSerial}
use Rattle.calls_serial.proofs.Exactly as serial
use Rattle.calls_cells.specs.declared.outcome.Undecided.{Undecided}
use Rattle.calls_distinct.specs.declared.cell.Fault.TheVariants.{Nowhere}
use Rattle.calls_distinct.specs.Cells.{is_put, put_by, put_pending_by, FromNowhere, Shows}
use Rattle.calls_distinct.specs.Outcomes.{AreAllPut}
use Rattle.calls_cells.specs.Faults.{HasFault, IsRepeated, DoOverlap, ShowsUndecided}
use Rattle.calls_cells.proofs.Searching.{each_at, each_or_one}

-- VALUES

got_or_not : (b : Bool) → (b ≡ true) ⊎ (b ≡ false)
got_or_not true = inl refl
got_or_not false = inr refl

module _ (past : List Event) where
  distinct_or_not : (v : ℕ) → IsDistinct (completed_calls past) (pending_calls past) v
      ⊎ (IsDistinct (completed_calls past) (pending_calls past) v → ⊥)
  distinct_or_not v =
      elim (cases_lt 1 (times (completed_calls past) (pending_calls past) v)) [
        | inl twice ↦ inr (λ d. (let once = d.once in absurd (omega arith)))
        | inr once ↦ elim (cases_eq v 0) [
          | inr some ↦ inl (record { once = once; zero_never = λ e. absurd (some e) })
          | inl zero ↦ elim (cases_eq (times (completed_calls past) (pending_calls past) v) 0) [
            | inl none ↦ inl (record { once = once; zero_never = λ e. none })
            | inr put ↦ inr (λ d. put (d.zero_never zero))
          ]
        ]
      ]

  -- a get of a value that is not distinct
  abbrev pub GotTwice : Call → Type 0
  GotTwice c =
      (is_got (completed_calls past) (value c) ≡ true)
      × (IsDistinct (completed_calls past) (pending_calls past) (value c) → ⊥)

  abbrev pub GotOnce : Call → Type 0
  GotOnce c =
      is_got (completed_calls past) (value c) ≡ true
      → IsDistinct (completed_calls past) (pending_calls past) (value c)

  one_value : (c : Call) → GotOnce c ⊎ GotTwice c
  one_value c = elim (distinct_or_not (value c)) [
    | inl d ↦ inl (λ e. d)
    | inr twice ↦ elim (got_or_not (is_got (completed_calls past) (value c))) [
      | inl got ↦ inr (got, twice)
      | inr never ↦ inl (λ got. absurd (let both : true ≡ false = sym got ∙ never in cc))
    ]
  ]

  pub values : IsDistinctHistory past ⊎ ((v : ℕ) × IsRepeated past v)
  values = elim (each_or_one GotOnce GotTwice (completed_calls past) (λ c k. one_value c)) [
    | inr r ↦ inr (value r.0, record { got = r.2.0; twice = r.2.1 })
    | inl each ↦ inl (λ v got.
        (let r = some_one (gets v) (completed_calls past) (leb-true 1 _ got) in
        let is = (gets_parts v r.0 r.2).1 in
        subst (IsDistinct (completed_calls past) (pending_calls past)) is
        (each_at GotOnce (completed_calls past) r.0 each r.1
        (subst (λ w. is_got (completed_calls past) w ≡ true) (sym is) got))))
  ]

-- PUTS

put_or_not : (op : Op) → ((v : ℕ) × (op ≡ Put v)) ⊎ ((v : ℕ) → op ≡ Put v → ⊥)
put_or_not (Put v) = inl (v, refl)
put_or_not Get = inr (λ v e. cc)
put_or_not Advance = inr (λ v e. cc)
put_or_not Read = inr (λ v e. cc)
put_or_not (Await n) = inr (λ v e. cc)
put_or_not Ticket = inr (λ v e. cc)
put_or_not (P i) = inr (λ v e. cc)
put_or_not (V i) = inr (λ v e. cc)
put_or_not (PBoth i j) = inr (λ v e. cc)
put_or_not (Produce w) = inr (λ v e. cc)
put_or_not Consume = inr (λ v e. cc)

module _ (calls : List PendingCall) where
  both_or_not : (o p : PendingCall) → Contains calls o → Contains calls p
      → (AreBothPending calls o p → ⊥) ⊎ AreBothPending calls o p
  both_or_not o p one other = elim (put_or_not o.op) [
    | inr other_op ↦ inl (λ b. other_op b.one_value b.one_put)
    | inl v ↦ elim (put_or_not p.op) [
      | inr other_op ↦ inl (λ b. other_op b.other_value b.other_put)
      | inl w ↦ elim (cases_lt o.first p.first) [
        | inr le ↦ inl (λ b. (let lt = b.order in absurd (omega arith)))
        | inl lt ↦ inr (record {
          one = one;
          other = other;
          one_value = v.0;
          other_value = w.0;
          one_put = v.1;
          other_put = w.1;
          order = lt;
        })
      ]
    ]
  ]

  abbrev pub Alone : PendingCall → Type 0
  Alone o = Each (λ (p : PendingCall). AreBothPending calls o p → ⊥) calls

  pub pairs : ((o p : PendingCall) → AreBothPending calls o p → ⊥)
      ⊎ ((o : PendingCall) × (p : PendingCall) × AreBothPending calls o p)
  pairs = elim (each_or_one Alone (λ (o : PendingCall). (p : PendingCall)
      × AreBothPending calls o p)
      calls one) [
        | inr r ↦ inr (r.0, r.2.0, r.2.1)
        | inl each ↦ inl (λ o p b. each_at (λ (p : PendingCall). AreBothPending calls o p
            → ⊥) calls p
            (each_at Alone calls o each b.one) b.other b)
      ]
    where
      one : (o : PendingCall) → Contains calls o
          → Alone o ⊎ ((p : PendingCall) × AreBothPending calls o p)
      one o known = elim (each_or_one (λ (p : PendingCall). AreBothPending calls o p → ⊥)
          (AreBothPending calls o) calls (λ p k. both_or_not o p known k)) [
            | inl each ↦ inl each
            | inr r ↦ inr (r.0, r.2)
          ]

puts : (past : List Event)
    → IsSerial past ⊎ ((o : PendingCall) × (p : PendingCall) × DoOverlap past o p)
puts [] = inl tt
puts (x ∷ past) = elim (puts past) [
  | inr r ↦ inr (
    r.0,
    r.1,
    record {
      late = x ∷ r.2.late;
      earlier = r.2.earlier;
      is = ap (λ zs. x ∷ zs) r.2.is;
      both = r.2.both;
    },
  )
  | inl serial ↦ elim (pairs (pending_calls (x ∷ past))) [
    | inl none ↦ inl (none, serial)
    | inr r ↦ inr (r.0, r.1, record { late = []; earlier = x ∷ past; is = refl; both = r.2 })
  ]
]

-- GETS OF VALUES THAT WERE NEVER PUT

module _ (past : List Event) where
  abbrev NotNowhere : Call → Type 0
  NotNowhere g = FromNowhere (completed_calls past) (pending_calls past) g → ⊥

  one_put : (g : Call) → Contains (completed_calls past) g
      → NotNowhere g ⊎ FromNowhere (completed_calls past) (pending_calls past) g
  one_put g known = elim (got_or_not (is_put g.op)) [
    | inl put ↦ inl (λ f. absurd (let both : true ≡ false = sym put ∙ f.get in cc))
    | inr get ↦ elim (cases_eq (value g) 0) [
      | inl zero ↦ inl (λ f. f.some zero)
      | inr some ↦ elim (cases_eq (count_by (put_by (value g) g.last) (completed_calls past)
          + count_by (put_pending_by (value g) g.last) (pending_calls past)) 0) [
            | inl none ↦ inr (record { known = known; get = get; some = some; none = none })
            | inr put ↦ inl (λ f. put f.none)
          ]
    ]
  ]

  pub puts_or_not : AreAllPut past ⊎ ((g : Call) × Shows past (Nowhere g))
  puts_or_not = elim (each_or_one NotNowhere
      (FromNowhere (completed_calls past) (pending_calls past)) (completed_calls past) one_put) [
        | inr r ↦ inr (r.0, r.2)
        | inl each ↦ inl (λ g f. each_at NotNowhere (completed_calls past) g each f.known f)
      ]

-- EVERY HISTORY

pub every_history : (past : List Event) → IsHistoryOf Cell past
    → HasOrderOf Cell past ⊎ (HasFault past ⊎ ((u : Undecided) × ShowsUndecided past u))
every_history past h = elim (values past) [
  | inl distinct ↦ elim (every_one_decided Cell past (clock past) tt h distinct (omega arith)) [
    | inl l ↦ inl l
    | inr f ↦ inr (inl (inl f))
  ]
  | inr v ↦ elim (puts past) [
    | inl alone ↦ elim (serial.decided past h alone) [
      | inl l ↦ inl l
      | inr f ↦ inr (inl (inr f))
    ]
    | inr o ↦ elim (puts_or_not past) [
      | inr g ↦ inr (inl (inl (Nowhere g.0, g.1)))
      | inl put ↦ inr (inr (
        record { value = v.0; first = o.0; second = o.1 },
        record { outside = record { repeated = v.1; overlap = o.2 }; put = put },
      ))
    ]
  ]
]
