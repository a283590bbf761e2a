-- There is one list of deliveries.
use Rattle.std.proofs.Common.{◌≡◌, ℕ, suc, ◌<◌, List, [], ◌∷◌, length, Some, refl, ap, sym, ◌∙◌, arith, slice_get, get_or}
use Rattle.std.proofs.lemmas.Option.{slice_get_within, slice_get-get_or}
use Rattle.ec_count.specs.Tables.{Tables}
use Rattle.ec_core.specs.declared.act.Entry.{Entry}
use Rattle.ec_buffer.specs.declared.delivery.Delivery.{Delivery}
use Rattle.ec_buffer.specs.Shapes.{Buffer}
use Rattle.ec_buffer.specs.Items.{put_on, PutsItem, GetsItem, IsDelivery}
use Rattle.ec_buffer.specs.Laws.{IsFollowed, DeliveriesAreDetermined}
use Rattle.ec_buffer.proofs.InTime.{put_once, got_once}

same_entry : (h : List Entry) (j k : ℕ) (x y : Entry) → j ≡ k → slice_get h j ≡ Some x → slice_get h k ≡ Some y → x ≡ y
same_entry h j k x y e at there = (let same : Some x ≡ Some y = sym at ∙ ap (slice_get h) e ∙ there in cc)

-- the worker that put an item, and the one that got it
same_producer : (t : Tables) (b : Buffer) (h : List Entry) (j k n v w x y : ℕ) → IsFollowed t b h → PutsItem t b h j n v x → PutsItem t b h k n w y → v ≡ w
same_producer t b h j k n v w x y f p q =
    sym p.by ∙ ap (λ (e : Entry). e.worker) (same_entry h j k p.entry q.entry (put_once t b h f j k n v w x y p q) p.is q.is) ∙ q.by

same_item : (t : Tables) (b : Buffer) (h : List Entry) (j k n v w x y : ℕ) → IsFollowed t b h → PutsItem t b h j n v x → PutsItem t b h k n w y → x ≡ y
same_item t b h j k n v w x y f p q =
    let same : Some x ≡ Some y = sym p.puts ∙ ap (λ (e : Entry). put_on b e.act) (same_entry h j k p.entry q.entry (put_once t b h f j k n v w x y p q) p.is q.is) ∙ q.puts in
    (cc)

same_consumer : (t : Tables) (b : Buffer) (h : List Entry) (j k n v w x y : ℕ) → IsFollowed t b h → GetsItem t b h j n v x → GetsItem t b h k n w y → v ≡ w
same_consumer t b h j k n v w x y f p q =
    sym p.by ∙ ap (λ (e : Entry). e.worker) (same_entry h j k p.entry q.entry (got_once t b h f j k n v w x y p q) p.is q.is) ∙ q.by

same_delivery : (t : Tables) (b : Buffer) (h : List Entry) (n : ℕ) (d e : Delivery) → IsFollowed t b h → IsDelivery t b h n d → IsDelivery t b h n e → d ≡ e
same_delivery t b h n d e f p q =
    let number : d.number ≡ e.number = p.number ∙ sym q.number in
    let producer : d.producer ≡ e.producer = same_producer t b h p.produced.0 q.produced.0 n d.producer e.producer d.item e.item f p.produced.1 q.produced.1 in
    let consumer : d.consumer ≡ e.consumer = same_consumer t b h p.delivered.0 q.delivered.0 n d.consumer e.consumer d.item e.item f p.delivered.1 q.delivered.1 in
    let item : d.item ≡ e.item = same_item t b h p.produced.0 q.produced.0 n d.producer e.producer d.item e.item f p.produced.1 q.produced.1 in
    let one : Delivery = record { number = d.number; producer = d.producer; consumer = d.consumer; item = d.item } in
    let other : Delivery = record { number = e.number; producer = e.producer; consumer = e.consumer; item = e.item } in
    let same : one ≡ other = cc in
    same

one_list : {X : Type 0} (xs ys : List X) → length xs ≡ length ys → ((i : ℕ) (x : X) → slice_get xs i ≡ Some x → slice_get ys i ≡ Some x) → xs ≡ ys
one_list [] [] e h = refl
one_list [] (y ∷ ys) e h = absurd (omega arith)
one_list (x ∷ xs) [] e h = absurd (omega arith)
one_list (x ∷ xs) (y ∷ ys) e h =
    let first : Some y ≡ Some x = h 0 x refl in
    let others : xs ≡ ys = one_list xs ys (omega arith) (λ i z at. h (suc i) z at) in
    (cc)

-- two lists of the deliveries of a history that follows the buffer are the same
pub determined : DeliveriesAreDetermined
determined t b h f xs ys p q =
    let long : length xs ≡ length ys = p.each_get ∙ sym q.each_get in
    one_list xs ys long (λ n d at.
    (let lt : n < length ys = (let within = slice_get_within xs n d at in omega arith) in
    let there = slice_get-get_or ys n d lt in
    there ∙ ap Some (sym (same_delivery t b h n d (get_or ys n d) f (p.numbered n d at) (q.numbered n (get_or ys n d) there)))))
