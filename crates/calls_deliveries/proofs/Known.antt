-- Items by number are what was put, in the order of time.
use Rattle.std.proofs.Common.{◌≡◌, ℕ, zero, suc, ◌+◌, List, [], ◌∷◌, Option, Some, None}
use Rattle.std.proofs.Common.{is_some, slice_get, slice_index_or, take, cond}
use Rattle.std.proofs.Common.{refl, ap, sym, ◌∙◌, arith}
use Rattle.std.proofs.lemmas.List.Sums.{sum_by-cons}
use Rattle.ec_core.specs.declared.act.Entry.{Entry}
use Rattle.ec_buffer.specs.Shapes.{Buffer as Shape}
use Rattle.ec_buffer.specs.Items.{put_on, puts_made}
use Rattle.ec_buffer.proofs.InTime.{puts_go}
use Rattle.calls_deliveries.specs.Seen.{items_put, item_of, put_one}
use Rattle.calls_deliveries.specs.Laws.{ItemsAreKnown}

puts_cons : (b : Shape) (x : Entry) (h : List Entry) (o : Option ℕ) → put_on b x.act ≡ o
    → puts_made b (x ∷ h) ≡ cond (is_some o) 1 0 + puts_made b h
puts_cons b x h o is =
    sum_by-cons (λ (y : Entry). cond (is_some (put_on b y.act)) 1 0) x h
    ∙ ap (λ z. cond (is_some z) 1 0 + puts_made b h) is

-- one more at the front
index_later : (o : Option ℕ) (vs : List ℕ) (n m : ℕ) → m ≡ cond (is_some o) 1 0 + n
    → slice_index_or (put_one o vs) m 0 ≡ slice_index_or vs n 0
index_later None vs n m is =
    ap (λ k. slice_index_or vs k 0) (let same : m ≡ n = omega arith in same)
index_later (Some v) vs n m is =
    ap (λ k. slice_index_or (v ∷ vs) k 0) (let same : m ≡ suc n = omega arith in same)

put_value : (b : Shape) (h : List Entry) (k : ℕ) (x : Entry) (v : ℕ) → slice_get h k ≡ Some x
    → put_on b x.act ≡ Some v → item_of b h (puts_made b (take k h)) ≡ v
put_value b [] k x v at puts = cc
put_value b (y ∷ h) zero x v at puts =
    let same : y ≡ x = cc in
    ap (λ o. slice_index_or (put_one o (items_put b h)) 0 0)
    (ap (λ (z : Entry). put_on b z.act) same ∙ puts)
put_value b (y ∷ h) (suc k) x v at puts =
    index_later (put_on b y.act) (items_put b h) (puts_made b (take k h))
    (puts_made b (y ∷ take k h)) (puts_cons b y (take k h) (put_on b y.act) refl)
    ∙ put_value b h k x v at puts

pub items_known : ItemsAreKnown
items_known t b h f k n w v p =
    ap (item_of b h) (sym (puts_go t b h f k n w v p)) ∙ put_value b h k p.entry v p.is p.puts
