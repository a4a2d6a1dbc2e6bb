-- The violation of a red-black tree shows words of the dump alone.
use Rattle.std.proofs.Common.{◌≡◌, ℕ, zero, suc, ◌+◌, Bool, true, false, List, ◌∷◌, ◌++◌, Option, Some, None}
use Rattle.std.specs.Prelude.{Result, Ok, Err, ⊤, ◌&&◌, get_or, if◌then◌else◌, not, nat_eq, option_to_list}
use Rattle.kc_word.specs.declared.bits.Bits.{Bits}
use Rattle.kc_memory.specs.declared.words.VWord.{VWord}
use Rattle.kc_memory.specs.declared.rule.Rule.TheVariants.{R1, R2, R3, R5, R6}
use Rattle.kc_memory.specs.Bits.{Number, bits, number_places}
use Rattle.kc_memory.specs.Held.{word_count}
use Rattle.kc_memory.specs.Image.{Image}
use Rattle.kc_memory.specs.Laws.{NumbersStand, PlacesStand}
use Rattle.kc_memory.specs.Places.{AllStandIn, StandsIn, entry_places, place_of, places_of}
use Rattle.kc_memory.specs.Stopped.{Stopped}
use Rattle.kc_memory.specs.Translation.{vword}
use Rattle.kc_found.specs.declared.asked.Asked.{Asked}
use Rattle.kc_found.specs.declared.shapes.RbShape.{RbShape}
use Rattle.kc_found.specs.declared.trees.RbHead.{RbHead}
use Rattle.kc_found.specs.declared.trees.RbKey.{RbKey}
use Rattle.kc_found.specs.declared.trees.RbLinks.{RbLinks}
use Rattle.kc_found.specs.declared.trees.RbSpot.{RbSpot}
use Rattle.kc_found.specs.Nodes.{at_offset}
use Rattle.kc_found.specs.RbTrees.{course_of, reads_of, links_of, links_at, leftmost_of, head_of, head_at, head_site, head_claims, leftmost_claims, key_at, keys_at, as_key, byte_of, element_of, key_in, node_site, site_with, null_site, node_claims, link_fault, red_fault, key_fault, bound_fault, is_below, is_above, is_red, parent_in, differs, left_spot, right_spot, root_spot, where_ok, behind_ok, broken_by, end_site, tree_trials, whole_tree, number_of, rb_trials, tree_walk}
use Rattle.kc_found.specs.Trials.{Trial, Meet, and_then, met}
use Rattle.kc_found.specs.Violations.{Violation, breaks, missed}
use Rattle.kc_found.specs.Showing.{AllShow}
use Rattle.kc_laws.specs.Places.{show_whole, judged_shows, broken_shows, either_shows}
use Rattle.kc_rb.proofs.Descent.{tail}
use Rattle.kc_rb.proofs.Growth.{below}
use Rattle.kc_rb.proofs.Judging.{judged_with}

-- a word that was read, and a stop's entry
abbrev Shows : Image → VWord → Type 0
Shows image w = StandsIn image (place_of w)

abbrev Stops : Image → Stopped → Type 0
Stops image s = AllStandIn image (entry_places s.pa s.entry)

-- what holds of what was read, and of the stop
abbrev Read : {A : Type 0} → Image → (A → Type 0) → Result A Stopped → Type 0
Read image P (Ok a) = P a
Read image P (Err s) = Stops image s

read_by : (image : Image) (r : Result VWord Stopped) → AllStandIn image (places_of r) → Read image (Shows image) r
read_by image (Ok w) a = a.0
read_by image (Err s) a = a

read_next : {A B : Type 0} (image : Image) (P : A → Type 0) (Q : B → Type 0) (r : Result A Stopped) (go : A → Result B Stopped) → Read image P r → ((a : A) → P a → Read image Q (go a)) → Read image Q (and_then r go)
read_next image P Q (Ok a) go h next = next a h
read_next image P Q (Err s) go h next = h

abbrev LinksShow : Image → RbLinks → Type 0
LinksShow image n = Shows image n.parent × Shows image n.right × Shows image n.left

links_show : PlacesStand → (image : Image) (shape : RbShape) (node : ℕ) → Read image (LinksShow image) (links_of (vword image) shape node)
links_show places image shape node =
    let word : (va : ℕ) → Read image (Shows image) (vword image va) = λ va. read_by image (vword image va) (places image va) in
    read_next image (Shows image) (LinksShow image) (vword image (at_offset node shape.parent_color)) _ (word (at_offset node shape.parent_color)) (λ p here.
    read_next image (Shows image) (LinksShow image) (vword image (at_offset node shape.right)) _ (word (at_offset node shape.right)) (λ r there.
    read_next image (Shows image) (LinksShow image) (vword image (at_offset node shape.left)) _ (word (at_offset node shape.left)) (λ l last. (here, there, last))))

abbrev FirstShows : Image → Option VWord → Type 0
FirstShows image None = ⊤
FirstShows image (Some w) = Shows image w

abbrev HeadShows : Image → RbHead → Type 0
HeadShows image h = Shows image h.root × FirstShows image h.leftmost

leftmost_shows : PlacesStand → (image : Image) (start : ℕ) (offset : Option ℕ) → Read image (FirstShows image) (leftmost_of (vword image) start offset)
leftmost_shows places image start None = tt
leftmost_shows places image start (Some offset) =
    read_next image (Shows image) (FirstShows image) (vword image (at_offset start offset)) _ (read_by image (vword image (at_offset start offset)) (places image (at_offset start offset))) (λ w here. here)

head_shows : PlacesStand → (image : Image) (shape : RbShape) (start : ℕ) → Read image (HeadShows image) (head_of (vword image) shape start)
head_shows places image shape start =
    read_next image (Shows image) (HeadShows image) (vword image (at_offset start shape.root)) _ (read_by image (vword image (at_offset start shape.root)) (places image (at_offset start shape.root))) (λ r here.
    read_next image (FirstShows image) (HeadShows image) (leftmost_of (vword image) start shape.leftmost) _ (leftmost_shows places image start shape.leftmost) (λ l there. (here, there)))

abbrev KeyShows : Image → Option RbKey → Type 0
KeyShows image None = ⊤
KeyShows image (Some k) = AllStandIn image (k.number.first ∷ option_to_list k.number.second)

number_shows : (image : Image) (at : ℕ) (r : Result Number Stopped) → AllStandIn image (number_places r) → Read image (KeyShows image) (and_then r (λ n. Ok (Some (as_key at n))))
number_shows image at (Ok n) a = a
number_shows image at (Err s) a = a

key_shows_at : NumbersStand → (image : Image) (element : ℕ) (key : Option Bits) → Read image (KeyShows image) (key_at (reads_of image) element key)
key_shows_at numbers image element None = tt
key_shows_at numbers image element (Some b) = number_shows image (byte_of element b.bit) (bits image element b.bit b.width b.signed) (numbers image element b.bit b.width b.signed)

-- a rule, if it is broken
abbrev FaultShows : Image → Option Violation → Type 0
FaultShows image None = ⊤
FaultShows image (Some v) = AllStandIn image v.places

fault_shows : (image : Image) (o : Option Violation) → FaultShows image o → AllShow {X = ℕ} image (broken_by o)
fault_shows image None h = tt
fault_shows image (Some v) h = (h, tt)

either_fault : (image : Image) (b : Bool) (x y : Option Violation) → FaultShows image x → FaultShows image y → FaultShows image (if b then x else y)
either_fault image true x y h k = h
either_fault image false x y h k = k

either_places : (image : Image) (b : Bool) (v w : Violation) → AllStandIn image v.places → AllStandIn image w.places → AllStandIn image ((if b then v else w).places)
either_places image true v w h k = h
either_places image false v w h k = k

link_fault_shows : (image : Image) (asked : Asked) (s : RbSpot) (n : RbLinks) → Shows image n.parent → FaultShows image (link_fault asked s n)
link_fault_shows image asked s n here =
    either_fault image (not (nat_eq (parent_in n.parent.value) s.parent)) (Some (breaks asked R1 n.parent (Some s.parent))) _ (here, tt)
    (either_fault image (s.red && is_red n.parent.value) (Some (red_fault asked s n.parent)) None
    (either_places image (nat_eq s.parent 0) (breaks asked R2 n.parent (Some (n.parent.value + 1))) (breaks asked R3 n.parent (Some (n.parent.value + 1))) (here, tt) (here, tt)) tt)

key_fault_shows : (image : Image) (asked : Asked) (unique : Bool) (s : RbSpot) (k : Option RbKey) → KeyShows image k → FaultShows image (key_fault asked unique s k)
key_fault_shows image asked unique s None h = tt
key_fault_shows image asked unique s (Some k) h =
    either_fault image (is_below unique s.low k.number.value) (Some (bound_fault asked k s.low)) _ h
    (either_fault image (is_above unique s.high k.number.value) (Some (bound_fault asked k s.high)) None h tt)

-- what follows what was read, and the violation by a stop
where_shows : {A : Type 0} (image : Image) (asked : Asked) (led : VWord) (P : A → Type 0) (r : Result A Stopped) (go : A → List (Trial ℕ)) → Shows image led → Read image P r → ((a : A) → P a → AllShow image (go a)) →
    AllShow image (where_ok r (missed asked (Some led)) go)
where_shows image asked led P (Ok a) go here h next = next a h
where_shows image asked led P (Err s) go here h next = ((here, h), tt)

behind_shows : {A : Type 0} (image : Image) (P : A → Type 0) (r : Result A Stopped) (go : A → List (Trial ℕ)) → Read image P r → ((a : A) → P a → AllShow image (go a)) → AllShow image (behind_ok r go)
behind_shows image P (Ok a) go h next = next a h
behind_shows image P (Err s) go h next = tt

site_shows : (image : Image) (shape : RbShape) (asked : Asked) (s : RbSpot) (there : Result RbLinks Stopped) (key : Result (Option RbKey) Stopped) → Shows image s.link → Read image (LinksShow image) there → Read image (KeyShows image) key →
    AllShow image (site_with (course_of image shape asked) s there key)
site_shows image shape asked s there key here links keys =
    let c = course_of image shape asked in
    where_shows image asked s.link (LinksShow image) there (λ n. node_claims asked n ++ judged_with c s n key) here links (λ n h.
    show_whole {X = ℕ} image (node_claims asked n) (judged_with c s n key) ((h.0, tt), ((h.1, tt), ((h.2, tt), tt)))
    (show_whole {X = ℕ} image (broken_by (link_fault asked s n)) (where_ok key (missed asked (Some s.link)) (λ k. broken_by (key_fault asked shape.unique s k))) (fault_shows image (link_fault asked s n) (link_fault_shows image asked s n h.0))
    (where_shows image asked s.link (KeyShows image) key (λ k. broken_by (key_fault asked shape.unique s k)) here keys (λ k g. fault_shows image (key_fault asked shape.unique s k) (key_fault_shows image asked shape.unique s k g)))))

tree_shows : PlacesStand → NumbersStand → (image : Image) (shape : RbShape) (asked : Asked) (first : Option ℕ) (left : ℕ) (s : RbSpot) → Shows image s.link → AllShow image (tree_trials (course_of image shape asked) first left s)
unfolding tree_trials
tree_shows places numbers image shape asked first zero s here = tt
tree_shows places numbers image shape asked first (suc left) s here =
    let c = course_of image shape asked in
    let links = links_show places image shape s.link.value in
    let keys = key_shows_at numbers image (element_of shape s.link.value) shape.key in
    let key = key_in (keys_at c s) in
    either_shows image (nat_eq s.link.value 0) (null_site asked first s) (node_site c s ++ behind_ok (links_at c s) (λ n. below c first left s n key)) (broken_shows image (differs first s.black) (breaks asked R5 s.link first) (here, tt))
    (show_whole image (node_site c s) (behind_ok (links_at c s) (λ n. below c first left s n key)) (site_shows image shape asked s (links_at c s) (keys_at c s) here links keys)
    (behind_shows image (LinksShow image) (links_at c s) (λ n. below c first left s n key) links (λ n h.
    show_whole image (tree_trials c first left (left_spot s n key)) (Meet s.link.value ∷ tree_trials c first left (right_spot s n key))
    (tree_shows places numbers image shape asked first left (left_spot s n key) h.2)
    (tree_shows places numbers image shape asked first left (right_spot s n key) h.1))))

leftmost_claims_show : (image : Image) (asked : Asked) (l : Option VWord) → FirstShows image l → AllShow {X = ℕ} image (leftmost_claims asked l)
leftmost_claims_show image asked None h = tt
leftmost_claims_show image asked (Some w) h = ((h, tt), tt)

head_site_shows : (image : Image) (asked : Asked) (r : Result RbHead Stopped) → Read image (HeadShows image) r → AllShow {X = ℕ} image (where_ok r (missed asked None) (head_claims asked))
head_site_shows image asked (Ok h) here = ((here.0, tt), leftmost_claims_show image asked h.leftmost here.1)
head_site_shows image asked (Err s) here = (here, tt)

end_shows : (image : Image) (asked : Asked) (l : Option VWord) (ns : List ℕ) → FirstShows image l → AllShow image (end_site asked l ns)
end_shows image asked None ns h = tt
end_shows image asked (Some l) ns h = broken_shows image (not (nat_eq l.value (get_or ns 0 0))) (breaks asked R6 l (Some (get_or ns 0 0))) (h, tt)

trials_show : PlacesStand → NumbersStand → (image : Image) (shape : RbShape) (asked : Asked) (w : ℕ) → AllShow image (rb_trials (course_of image shape asked) w)
trials_show places numbers image shape asked w =
    let c = course_of image shape asked in
    let head = head_shows places image shape asked.start in
    show_whole image (head_site c) (behind_ok (head_at c) (λ h. whole_tree c w h ++ tail c w h)) (head_site_shows image asked (head_at c) head)
    (behind_shows image (HeadShows image) (head_at c) (λ h. whole_tree c w h ++ tail c w h) head (λ h here.
    show_whole image (whole_tree c w h) (tail c w h) (tree_shows places numbers image shape asked (number_of c w h) (w + 2) (root_spot h.root) here.0) (end_shows image asked h.leftmost (met (whole_tree c w h)) here.1)))

pub walk_shows : PlacesStand → NumbersStand → (image : Image) (shape : RbShape) (audit start : ℕ) (v : Violation) → tree_walk image shape audit start ≡ Err v → AllStandIn image v.places
walk_shows places numbers image shape audit start v is =
    judged_shows image (rb_trials (course_of image shape (record { audit = audit; start = start })) (word_count image.physical)) v (trials_show places numbers image shape (record { audit = audit; start = start }) (word_count image.physical)) is
