-- If sorted zones are in the wrong order, two values alternate or a 0 is stale.
use Rattle.std.proofs.Common.{◌≡◌, ◌≢◌, ℕ, ◌<◌, ◌≤◌, ◌⊎◌, inl, inr, min, max, not}
use Rattle.std.proofs.Common.{Bool, true, false, cond, ◌==◌, List}
use Rattle.std.proofs.Common.{refl, ap, sym, ◌∙◌, arith, subst}
use Rattle.std.specs.List.{Contains}
use Rattle.std.proofs.lemmas.Bool.{eq-eqb, eqb-true, cases_lt, and_parts, and_from}
use Rattle.std.proofs.lemmas.List.Elements.{All-contains}
use Rattle.calls_core.specs.declared.history.PendingCall.{PendingCall}
use Rattle.calls_core.specs.declared.history.Call.{Call}
use Rattle.calls_core.specs.Histories.{Suits}
use Rattle.calls_core.specs.Linearizations.{Precedes}
use Rattle.calls_core.proofs.Lists.{all_from_each}
use Rattle.calls_distinct.specs.declared.zone.Zone.{Zone}
use Rattle.calls_distinct.specs.Cells.{is_put, value, IsDistinct, IsStale, IsBegun}
use Rattle.calls_distinct.specs.Cells.{IsAlternation, gets, is_got}
use Rattle.calls_distinct.specs.kept.Zones.{key, rank, NotAfter, IsZone}
use Rattle.calls_distinct.proofs.Accesses.{IsAccess}

-- the calls that take effect, if the value of each get was put once
pub record AreChecked (all done : List Call) (pending : List PendingCall) (t : ℕ) : Type 0 where
  pub known : (c : Call) → Contains all c → IsBegun done pending c
  pub access : (c : Call) → Contains all c → IsAccess c.op
  pub suits : (c : Call) → Contains all c → Suits c.op c.reply
  pub lasts : (c : Call) → Contains all c → c.first < c.last
  pub begun : (c : Call) → Contains all c → c.first < t
  pub apart : (c d : Call) → Contains all c → Contains all d → c.first ≡ d.last → ⊥
  pub returned : (c : Call) → Contains all c → c.last < t → Contains done c
  pub get_returned : (c : Call) → Contains all c → is_put c.op ≡ false → Contains done c
  pub get_got : (c : Call) → Contains all c → is_put c.op ≡ false → is_got done (value c) ≡ true
  pub distinct : (v : ℕ) → is_got done v ≡ true → IsDistinct done pending v
  pub one_put : (p q : Call) → Contains all p → Contains all q → is_put p.op ≡ true
      → is_put q.op ≡ true → value p ≡ value q → is_got done (value p) ≡ true → p.first ≡ q.first
  pub no_zero : (p : Call) → Contains all p → is_put p.op ≡ true → value p ≡ 0
      → is_got done 0 ≡ true → ⊥
  pub put_first : (p g : Call) → Contains all p → Contains all g → is_put p.op ≡ true
      → is_put g.op ≡ false → value p ≡ value g → p.first ≤ g.last
  pub put_there : (g : Call) → Contains all g → is_put g.op ≡ false → value g ≢ 0 → (p : Call)
      × Contains all p × (is_put p.op ≡ true) × (value p ≡ value g)

pub either : (b : Bool) → (b ≡ true) ⊎ (b ≡ false)
either true = inl refl
either false = inr refl

pub not_true : (b : Bool) → not b ≡ true → b ≡ false
not_true true e = sym e
not_true false e = refl

-- BY THE DEFINITIONS

pub rank_put : (c : Call) → is_put c.op ≡ true → rank c ≡ 0
rank_put c e = ap (λ b. cond b 0 (max 1 c.first)) e

pub rank_get : (c : Call) → is_put c.op ≡ false → rank c ≡ max 1 c.first
rank_get c e = ap (λ b. cond b 0 (max 1 c.first)) e

pub gets_is : (c : Call) → gets 0 c ≡ true → (is_put c.op ≡ false) × (value c ≡ 0)
gets_is c e =
    let p = and_parts (not (is_put c.op)) (value c == 0) e in
    (not_true (is_put c.op) p.0, eqb-true (value c) 0 p.1)

pub gets_of : (c : Call) → is_put c.op ≡ false → value c ≡ 0 → gets 0 c ≡ true
gets_of c p e = and_from (not (is_put c.op)) (value c == 0) (ap not p) (eq-eqb (value c) 0 e)

pub key_zero : (z : Zone) → gets 0 z.call ≡ true → key z ≡ 0
key_zero z e = ap (λ b. cond b 0 (min z.early.last z.late.first)) e

pub key_other : (z : Zone) → gets 0 z.call ≡ false → key z ≡ min z.early.last z.late.first
key_other z e = ap (λ b. cond b 0 (min z.early.last z.late.first)) e

crossed : (E L e l : ℕ) → e < L → (l ≡ E → ⊥) → min E L ≤ min e l → E < l
crossed E L e l lt ne le = elim (cases_lt E l) [
  | inl h ↦ h
  | inr ge ↦ elim (cases_lt E L) [
    | inl a ↦
        (let same : l ≡ E = omega arith in absurd (ne same))
    | inr b ↦ absurd (omega arith)
  ]
]

module _ (all done : List Call) (pending : List PendingCall) (t : ℕ)
    (checked : AreChecked all done pending t) where
  one_least : (z : Zone) (c : Call) → IsZone all done z → Contains all c
      → is_got done (value z.call) ≡ true → value c ≡ value z.call → z.early.last ≤ c.last
  one_least z c h k got e = All-contains (λ (c : Call). value c ≡ value z.call
      → z.early.last ≤ c.last) all c (all_from_each (λ (c : Call). value c ≡ value z.call
      → z.early.last ≤ c.last) all (h.least got)) k e

  one_most : (z : Zone) (c : Call) → IsZone all done z → Contains all c
      → is_got done (value z.call) ≡ true → value c ≡ value z.call → c.first ≤ z.late.first
  one_most z c h k got e = All-contains (λ (c : Call). value c ≡ value z.call
      → c.first ≤ z.late.first) all c (all_from_each (λ (c : Call). value c ≡ value z.call
      → c.first ≤ z.late.first) all (h.most got)) k e

  -- the zones of a value that was got have one key
  pub one_early : (x z : Zone) → IsZone all done x → IsZone all done z
      → is_got done (value x.call) ≡ true → value x.call ≡ value z.call
      → (x.early.last ≡ z.early.last) × (x.late.first ≡ z.late.first)
  one_early x z hx hz got e =
      let got_z : is_got done (value z.call) ≡ true = ap (is_got done) (sym e) ∙ got in
      let a = one_least x z.early hx hz.known_early got (hz.early ∙ sym e) in
      let b = one_least z x.early hz hx.known_early got_z (hx.early ∙ e) in
      let c = one_most x z.late hx hz.known_late got (hz.late ∙ sym e) in
      let d = one_most z x.late hz hx.known_late got_z (hx.late ∙ e) in
      (omega arith, omega arith)

  -- no call of a value that was got precedes one that is sorted before it
  pub group_kept : (x z : Zone) → IsZone all done x → IsZone all done z → NotAfter x z
      → is_got done (value x.call) ≡ true → value x.call ≡ value z.call → key x ≡ key z
      → Precedes z.call x.call → ⊥
  group_kept x z hx hz n got e k fb =
      let lx = checked.lasts x.call hx.known in
      let lz = checked.lasts z.call hz.known in
      let r = n.ranks k e in
      elim (either (is_put x.call.op)) [
        | inl px ↦ elim (either (is_put z.call.op)) [
          | inl pz ↦ (let same = checked.one_put x.call z.call hx.known hz.known px pz e got in
              omega arith)
          | inr gz ↦ (let le = checked.put_first x.call z.call hx.known hz.known px gz e in
              omega arith)
        ]
        | inr gx ↦ elim (either (is_put z.call.op)) [
          | inl pz ↦ omega (arith, rank_get x.call gx, rank_put z.call pz)
          | inr gz ↦ omega (arith, rank_get x.call gx, rank_get z.call gz)
        ]
      ]

  pub stale_here : (x z : Zone) → IsZone all done x → IsZone all done z → NotAfter x z
      → Precedes z.call x.call → gets 0 x.call ≡ true → IsStale done pending z.call x.call
  stale_here x z hx hz n fb zero_x =
      let is = gets_is x.call zero_x in
      let got : is_got done (value x.call) ≡ true = checked.get_got x.call hx.known is.0 in
      let got0 : is_got done 0 ≡ true = ap (is_got done) (sym is.1) ∙ got in
      let bx = checked.begun x.call hx.known in
      record {
        known_c = checked.returned z.call hz.known (omega arith);
        known_g = checked.get_returned x.call hx.known is.0;
        other = λ e. elim (either (is_put z.call.op)) [
          | inl pz ↦ checked.no_zero z.call hz.known pz e got0
          | inr gz ↦ group_kept x z hx hz n got (is.1 ∙ sym e)
              (key_zero x zero_x ∙ sym (key_zero z (gets_of z.call gz e))) fb
        ];
        zero = is.1;
        get = is.0;
        never = (checked.distinct 0 got0).zero_never refl;
        before = fb;
      }

  -- the values of x and z alternate
  pub alternate_here : (x z : Zone) → IsZone all done x → IsZone all done z → NotAfter x z
      → Precedes z.call x.call → gets 0 x.call ≡ false → IsAlternation done pending x.early z.late
      z.call x.call
  alternate_here x z hx hz n fb other_x =
      let lx = checked.lasts x.call hx.known in
      let lz = checked.lasts z.call hz.known in
      let le = checked.lasts x.early hx.known_early in
      let fb_is : z.call.last < x.call.first = fb in
      let kx = key_other x other_x in
      let other_z : gets 0 z.call ≡ false = elim (either (gets 0 z.call)) [
        | inl yes_z ↦ (let kz = key_zero z yes_z in let keys = n.keys in let invoked = hx.invoked in
            absurd (no_room x.early.last x.late.first x.call.first z.call.last (omega arith)
            (omega arith) invoked fb))
        | inr no_z ↦ no_z
      ] in
      let kz = key_other z other_z in
      let keys : min x.early.last x.late.first ≤ min z.early.last z.late.first =
      (let k = n.keys in omega arith) in
      let invoked = hx.invoked in
      let returned = hz.returned in
      let cross : x.early.last < z.late.first = crossed x.early.last x.late.first z.early.last
      z.late.first (omega arith) (checked.apart z.late x.early hz.known_late hx.known_early)
      keys in
      let differ : value x.call ≢ value z.call = λ e. elim (either (is_got done (value x.call))) [
        | inl got ↦ (let same = one_early x z hx hz got e in
            group_kept x z hx hz n got e (kx ∙ ap (λ m. min m x.late.first) same.0 ∙ ap (λ m.
            min z.early.last m) same.1 ∙ sym kz) fb)
        | inr none ↦
            (let sx : x.early.last ≡ x.call.last = ap (λ (c : Call). c.last) (hx.single none).0 in
            let sz : z.late.first ≡ z.call.first = ap (λ (c : Call). c.first)
            (hz.single (ap (is_got done) (sym e) ∙ none)).1 in
            omega arith)
      ] in
      record {
        known_a = checked.returned x.early hx.known_early
            (omega (arith, cross, checked.begun z.late hz.known_late));
        known_b = checked.known z.late hz.known_late;
        known_c = checked.returned z.call hz.known (omega
            (arith, fb_is, checked.begun x.call hx.known));
        known_d = checked.known x.call hx.known;
        one = hx.early;
        another = hz.late;
        differ = λ e. differ (sym hx.early ∙ e ∙ hz.late);
        first = cross;
        second = fb;
        distinct_a = elim (either (is_got done (value x.call))) [
          | inl got ↦
              inl (subst (IsDistinct done pending) (sym hx.early)
              (checked.distinct (value x.call) got))
          | inr none ↦ inr (hx.single none).0
        ];
        distinct_b = elim (either (is_got done (value z.call))) [
          | inl got ↦
              inl (subst (IsDistinct done pending) (sym hz.late)
              (checked.distinct (value z.call) got))
          | inr none ↦ inr (hz.single none).1
        ];
      }
    where
      no_room : (E L f l : ℕ) → 0 < E → min E L ≤ 0 → f ≤ L → l < f → ⊥
      no_room E L f l some none a b = omega arith
