-- Puts, gets and deliveries, entry by entry.
use Rattle.std.proofs.Common.{◌≡◌, ℕ, false, List, [], ◌∷◌, ◌++◌, length, map, refl, ap, sym, ◌∙◌}
use Rattle.std.proofs.Common.{cond, reverse}
use Rattle.std.specs.List.{filter}
use Rattle.ec_count.specs.Tables.{Tables}
use Rattle.ec_core.specs.declared.act.Entry.{Entry}
use Rattle.ec_buffer.specs.declared.delivery.Delivery.{Delivery}
use Rattle.ec_buffer.specs.Shapes.{Buffer}
use Rattle.ec_buffer.specs.Collecting.{collected}
use Rattle.ec_buffer.specs.Follows.{buffer_rules}
use Rattle.ec_buffer.specs.Items.{AreDeliveries}
use Rattle.ec_buffer.specs.Laws.{IsFollowed}
use Rattle.ec_buffer.proofs.Gathering.{gathered}
use Rattle.ec_buffer.proofs.shared.OneList.{determined}
use Rattle.ec_heading.specs.declared.group.Group.TheVariants as groups
use Rattle.ec_draw.specs.declared.window.Window.{Window}
use Rattle.ec_draw.specs.declared.arrow.Move.{Move}
use Rattle.ec_draw.specs.declared.arrow.Move.TheVariants as moves
use Rattle.ec_draw.specs.Following.{follows}
use Rattle.ec_draw.specs.Arrows.{arrow_of, arrows_in, group_arrows, is_in, is_move, places}
use Rattle.ec_draw.proofs.Balancing.{follow_yes}

-- before the first entry there are none
pub places_first : (m : Move) (b : Buffer) → [] ≡ places m b []
unfolding places
places_first m b = refl

-- one entry more
pub places_next : (m : Move) (b : Buffer) (x : Entry) (past : List Entry) (place : ℕ)
    (ks ls : List ℕ) → place ≡ length past → ks ≡ places m b past
    → ls ≡ ks ++ cond (is_move m b x.act) (place ∷ []) [] → ls ≡ places m b (x ∷ past)
unfolding places
places_next m b x past place ks ls at was more =
    more ∙ ap (λ l. l ++ cond (is_move m b x.act) (place ∷ []) []) was
    ∙ ap (λ k. places m b past ++ cond (is_move m b x.act) (k ∷ []) []) at

-- the arrows of a buffer whose workers follow its rules, and of one whose workers don't
pub arrows_are : (t : Tables) (b : Buffer) (w : Window) (h : List Entry) (puts gets : List ℕ)
    (list : List Delivery) → IsFollowed t b h → AreDeliveries t b h list
    → puts ≡ places moves.Put b (reverse h) → gets ≡ places moves.Get b (reverse h)
    → filter (is_in w) (map (arrow_of b puts gets) list) ≡ group_arrows t w h (groups.Buffer b)
arrows_are t b w h puts gets list f are put got =
    ap (λ l. filter (is_in w) (map (arrow_of b puts gets) l))
    (determined t b h f list (collected b (reverse h)) are (gathered t b h f))
    ∙ ap (λ ks. filter (is_in w) (map (arrow_of b ks gets) (collected b (reverse h)))) put
    ∙ ap (λ ks. filter (is_in w)
    (map (arrow_of b (places moves.Put b (reverse h)) ks) (collected b (reverse h)))) got
    ∙ sym (ap (λ c. cond c (filter (is_in w) (arrows_in b (reverse h))) [])
    (follow_yes (buffer_rules t b) (reverse h) f.followed))

pub arrows_none : (t : Tables) (b : Buffer) (w : Window) (h : List Entry)
    → false ≡ follows (buffer_rules t b) (reverse h) → [] ≡ group_arrows t w h (groups.Buffer b)
arrows_none t b w h off = ap (λ c. cond c (filter (is_in w) (arrows_in b (reverse h))) []) off
