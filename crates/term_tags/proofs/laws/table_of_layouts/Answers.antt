use Rattle.term_tags.proofs.Rows.{layout-tuple, layout-pos-big, layout-neg-big, layout-ref, layout-fun, layout-holder, layout-heap-bin, layout-sub-bin, layout-map, layout-none}
use Rattle.term_tags.proofs.laws.table_of_layouts.Goals as goal

pub returns : goal.returns
returns c = record {
  tuple = layout-tuple;
  pos_big = layout-pos-big;
  neg_big = layout-neg-big;
  reference = layout-ref;
  fun = layout-fun;
  holder = layout-holder;
  heap_bin = layout-heap-bin;
  sub_bin = layout-sub-bin;
  map = layout-map;
  none = layout-none;
}
