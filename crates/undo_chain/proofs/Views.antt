-- Which before-images a reader lays back, entry by entry, and after each call of a chain.
use Rattle.std.proofs.Common.{◌≡◌, ◌≢◌, ℕ, ◌<◌, ◌≤◌, Bool, true, false, not, ◌||◌, List, [], ◌∷◌, map, refl, sym, ◌∙◌, ap, cond}
use Rattle.std.specs.Prelude.{All, filter}
use Rattle.std.specs.List.{take_while}
use Rattle.std.proofs.lemmas.List.Sums.{take_while-cons}
use Rattle.std.proofs.lemmas.List.Elements.{All-head, All-tail}
use Rattle.undo_chain.specs.declared.undo.Undo.{Undo}
use Rattle.undo_chain.specs.Entry.{is_move, is_own, is_stamped_by, is_in_view}
use Rattle.undo_chain.specs.Visible.{images_laid_back}
use Rattle.undo_chain.specs.Lawful.{IsLawful}
use Rattle.undo_chain.specs.Stamped.{stamped}
use Rattle.undo_chain.proofs.Pairs.{stamped_later, view_after}
use Rattle.undo_chain.proofs.Order.{IsLawful-tail, all_stamped}

-- Mapping a list that is kept or dropped maps it where it is kept.
map_cond : {X Y : Type 0} (f : X → Y) (b : Bool) (x : X) (xs : List X) →
    map f (cond (not b) (x ∷ xs) []) ≡ cond b [] (f x ∷ map f xs)
map_cond f true x xs = refl
map_cond f false x xs = refl

-- a reader stops at an entry in its view, and else lays its before-image back
pub images-cons : {D : Type 0} (u : Undo D) (es : List (Undo D)) (stamp session : ℕ) →
    images_laid_back (u ∷ es) stamp session
    ≡ cond (is_in_view u stamp session) [] (u.before ∷ images_laid_back es stamp session)
images-cons u es stamp session =
    ap
    (λ xs. map (λ undo. undo.before) xs)
    (take_while-cons (λ undo. not (is_in_view undo stamp session)) u es)
    ∙ map_cond
    (λ undo. undo.before)
    (is_in_view u stamp session)
    u
    (take_while (λ undo. not (is_in_view undo stamp session)) es)

-- a reader lays back the before-image of an entry that is not in its view
pub images_passed : {D : Type 0} (u : Undo D) (es : List (Undo D)) (stamp session : ℕ) →
    is_in_view u stamp session ≡ false →
    images_laid_back (u ∷ es) stamp session ≡ u.before ∷ images_laid_back es stamp session
images_passed u es stamp session out = rw (images-cons u es stamp session, out) refl

-- and stops at one that is
pub images_at_view : {D : Type 0} (u : Undo D) (es : List (Undo D)) (stamp session : ℕ) →
    is_in_view u stamp session ≡ true → images_laid_back (u ∷ es) stamp session ≡ []
images_at_view u es stamp session seen = rw (images-cons u es stamp session, seen) refl

-- another session lays back the same after a commit, below its stamp
pub images_after_commit : {D : Type 0} (session commit number : ℕ) (es : List (Undo D)) (stamp me : ℕ) →
    me ≢ session → stamp < commit →
    images_laid_back (map (stamped session commit number) es) stamp me ≡ images_laid_back es stamp me
images_after_commit session commit number [] stamp me other above = refl
images_after_commit session commit number (u ∷ es) stamp me other above =
    let same : is_in_view (stamped session commit number u) stamp me ≡ is_in_view u stamp me =
    view_after u.stamp (is_move u.kind) u.session session commit stamp me other above in
    images-cons (stamped session commit number u) (map (stamped session commit number) es) stamp me
    ∙ rw (same, images_after_commit session commit number es stamp me other above)
    (sym (images-cons u es stamp me))

-- a front of entries that are all stamped by a limit keeps none above it
filter_none : {D : Type 0} (limit : ℕ) (es : List (Undo D)) →
    All (λ undo. is_stamped_by undo limit ≡ true) es → filter (λ undo. not (is_stamped_by undo limit)) es ≡ []
filter_none limit [] all = refl
filter_none limit (e ∷ es) all =
    rw
    (All-head (λ undo. is_stamped_by undo limit ≡ true) e es all)
    (filter_none limit es (All-tail (λ undo. is_stamped_by undo limit ≡ true) e es all))

-- An entry that its stamp brings into view is in view, the reader's own or not.
in_view_from : (own : Bool) (by : Bool) → by ≡ true → own || by ≡ true
in_view_from true passed seen = refl
in_view_from false passed seen = seen

-- a reader at a limit or later lays back the same where the entries stamped by the limit are
-- dropped
pub images_after_prune : {D : Type 0} (limit : ℕ) (es : List (Undo D)) (stamp me : ℕ) → IsLawful es → limit ≤ stamp →
    images_laid_back (filter (λ undo. not (is_stamped_by undo limit)) es) stamp me ≡ images_laid_back es stamp me
images_after_prune limit [] stamp me lawful later = refl
images_after_prune limit (u ∷ es) stamp me lawful later =
    images_by limit u es stamp me lawful later (is_stamped_by u limit) refl (images_after_prune limit es stamp me (IsLawful-tail u es lawful) later)
  where
    images_by : {D : Type 0} (limit : ℕ) (u : Undo D) (es : List (Undo D)) (stamp me : ℕ) →
        IsLawful (u ∷ es) → limit ≤ stamp → (b : Bool) → is_stamped_by u limit ≡ b →
        images_laid_back (filter (λ undo. not (is_stamped_by undo limit)) es) stamp me ≡ images_laid_back es stamp me →
        images_laid_back (filter (λ undo. not (is_stamped_by undo limit)) (u ∷ es)) stamp me ≡ images_laid_back (u ∷ es) stamp me
    images_by limit u es stamp me lawful later true by rest =
        rw (filter_none limit (u ∷ es) (all_stamped limit u es lawful by))
        (sym (images_at_view u es stamp me (in_view_from (is_own u me) (is_stamped_by u stamp) (stamped_later u.stamp limit stamp later by))))
    images_by limit u es stamp me lawful later false by rest =
        rw by
        (images-cons u (filter (λ undo. not (is_stamped_by undo limit)) es) stamp me
        ∙ rw rest (sym (images-cons u es stamp me)))
