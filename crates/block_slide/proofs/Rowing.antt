-- A row of objects after both passes: whole objects side by side at the new places.
use Rattle.std.proofs.Common.{◌≡◌, ℕ, ◌+◌, ◌-◌, ◌*◌, ◌/◌, ◌%◌, ◌<◌, ◌≤◌, List, map, length, get_or, ◌∙◌, ap, subst, arith, inl, inr}
use Rattle.word_mem.specs.declared.ranges.Span.{Span}
use Rattle.word_arena.specs.Blocks.{Blocked}
use Rattle.term_words.specs.Object.{IsPointer}
use Rattle.term_words.specs.Counted.{In}
use Rattle.term_words.specs.Tiled.{IsTileAt, MoveAsOne}
use Rattle.term_words.proofs.Placing.Roles.{object-some}
use Rattle.term_words.proofs.Placing.Tiles.{tiled-moved}
use Rattle.off_heap_list.proofs.Chaining.Relocated.{in-map}
use Rattle.object_rows.specs.Row.{AreObjects, links_in}
use Rattle.word_shift.specs.Shifted.{word_image, ObjectShifted}
use Rattle.word_shift.proofs.Sliding.{image-pointer}
use Rattle.word_shift.proofs.Still.{image-tag, link-read, links-mapped, row-tile, shifted-read}
use Rattle.block_slide.specs.Down.{packed_place}
use Rattle.block_slide.specs.Held.{IsOfRow}
use Rattle.block_slide.specs.Parts.{nth_part, span_of, AreParts, SlidParts}
use Rattle.block_slide.specs.declared.parts.Part.{Part}
use Rattle.block_slide.specs.declared.parts.Part.TheVariants.{Objects}
use Rattle.block_slide.proofs.Standing.{part-shift, row-shifted, row-whole, used-moved}

module _ (old new : List ℕ) (xs : List Part) (blocked : Blocked old) (parts : AreParts old xs) (s : SlidParts old new xs) (i : ℕ) (listed : i < length xs) (span : Span)
    (is : nth_part xs i ≡ Objects span) (ws : List ℕ) (are : AreObjects old span.start ws span.end) where
  module _ (w : ℕ) (member : In w ws) where
    row : IsOfRow old xs w
    row = record { part = i; listed = listed; span = span; is = is; ws = ws; are = are; member = member }

    shifted : ObjectShifted (packed_place old) old s.mid w
    shifted = row-shifted old new xs blocked parts s w row

    here : get_or new (packed_place old (w / 4)) 0 ≡ get_or s.mid (w / 4) 0
    here =
        used-moved old new xs blocked parts s (w / 4) ((row-whole old new xs blocked parts s w row).whole (w / 4) (omega arith) (omega (arith, object-some old w)))

    read : IsTileAt old new w (packed_place old (w / 4))
    read =
        let z : IsTileAt old s.mid w (w / 4) = shifted-read (packed_place old) old s.mid w (are.objects w member) (row-tile old span.start span.end ws are.row w member) shifted in
        record { cons = λ t. ap (λ x. x % 4) here ∙ z.cons t; others = λ n. here ∙ z.others n }

    image : word_image (packed_place old) w ≡ packed_place old (w / 4) * 4 + w % 4
    image = image-pointer (packed_place old) w (are.objects w member)

  move : MoveAsOne old new (word_image (packed_place old)) (packed_place old) span.start span.end ws
  move = record {
    shift = λ q low high.
        let P : Part → Type 0 = λ x. (span_of x).start ≤ q → q ≤ (span_of x).end → packed_place old q ≡ packed_place old (span_of x).start + (q - (span_of x).start) in
        subst P is (part-shift old xs i q blocked parts listed) low high;
    words = image;
    read = read;
  }

  pub row-slid : AreObjects new (packed_place old span.start) (map (word_image (packed_place old)) ws) (packed_place old span.end)
  row-slid = record {
    row = tiled-moved old new (word_image (packed_place old)) (packed_place old) span.start span.end ws move are.row;
    objects = λ x member.
        let (w, (there, e)) = in-map (word_image (packed_place old)) x ws member in
        let y : IsPointer w = are.objects w there in
        let same : x % 4 ≡ w % 4 = ap (λ z. z % 4) e ∙ image-tag (packed_place old) w in
        elim y [ inl t ↦ inl (same ∙ t) | inr t ↦ inr (same ∙ t) ];
  }

  -- The holders and funs of the row are those that stood there.
  pub links-in-slid : links_in new (map (word_image (packed_place old)) ws) ≡ map (packed_place old) (links_in old ws)
  links-in-slid =
      links-mapped old new (word_image (packed_place old)) (packed_place old) ws
      (λ w i. link-read old new w (word_image (packed_place old) w) (packed_place old (w / 4)) (omega (arith, image w i)) (image-tag (packed_place old) w) (read w i))
      (λ w i. omega (arith, image w i))
