-- The worked images: where each of their pointers leads.
use Rattle.std.proofs.Common.{List, [], ◌∷◌, ◌++◌, replicate, refl, arith, inl, inr}
use Rattle.store_image.specs.Image.{PointersLead, area_of, areas_in, heaps_of, image_roots, in_blocks, in_half, message, area}
use Rattle.store_image.specs.Images.{block_region, block_regions, block_words, blocks, half_region, half_words, in_one_half}
use Rattle.store_image.proofs.Pieces.Leading.{leads-into, leads-to_itself}

-- In blocks each pointer leads where it may.
pub blocks-lead : PointersLead in_blocks blocks block_words
blocks-lead = record {
  areas_told = λ n i. i;
  areas_once = ((λ i. i), tt);
  processes = (
    record {
      own = leads-into block_words (97 ∷ (replicate 15 59 ++ (9 ∷ []))) (heaps_of 1 block_regions ++ areas_in block_regions) (97 ∷ 59 ∷ 9 ∷ 118 ∷ 31 ∷ 47 ∷ []) refl;
      queue = record { each = []; lead = tt; apart = tt };
    },
    (
      record {
        own = leads-into block_words (41 ∷ replicate 15 59) (heaps_of 2 block_regions ++ areas_in block_regions) (41 ∷ 59 ∷ 31 ∷ []) refl;
        queue = record {
          each = block_region message 2 18 2 ∷ [];
          lead = inr (inl refl, leads-into block_words (73 ∷ []) (block_region message 2 18 2 ∷ areas_in block_regions) (73 ∷ 47 ∷ 59 ∷ []) refl, tt);
          apart = ((λ i. i), tt);
        };
      },
      tt,
    ),
  );
  literals = (leads-into block_words (118 ∷ []) (area_of 0 block_regions) (118 ∷ 31 ∷ 47 ∷ []) refl, tt);
  areas = (
    leads-to_itself block_words (image_roots blocks) block_regions (97 ∷ 59 ∷ 9 ∷ 41 ∷ 73 ∷ 118 ∷ 31 ∷ 47 ∷ []) (block_region area 0 29 3) refl refl,
    tt,
  );
}

-- In one half too.
pub half-leads : PointersLead in_half in_one_half half_words
half-leads = record {
  base = 0;
  side = inl refl;
  within = ((omega arith, omega arith), tt);
  lead = leads-into half_words (9 ∷ replicate 15 59) (half_region ∷ []) (9 ∷ 59 ∷ 18 ∷ 31 ∷ 47 ∷ []) refl;
}
