use Rattle.std.proofs.Common.{ℕ, List, ◌++◌, codes, map, sym}
use Rattle.plain_machine.specs.Maps.{bin_text, fun_text}
use Rattle.plain_machine.specs.Texts.{divided}
use Rattle.text_parts.proofs.Writing.{written-after, written-as, written-short}
use Rattle.counts_text.specs.Told.{bin_of, by_name, counts_told, fun_of}
use Rattle.counts_text.proofs.Whole.{come-first, come-more, come-short}
use Rattle.counts_text.proofs.listing.put_counts.Goals as goal

pub returns-in_err-put : goal.returns-in_err-put
returns-in_err-put g c =
    let bins : List ℕ = divided (map bin_text (map (bin_of c.args.mem.now) c.args.bins.now)) in
    let funs : List ℕ = divided (map (fun_text c.args.names.now) (map (fun_of c.args.mem.now) (by_name c.args.mem.now c.args.names.now c.args.funs.now))) in
    written-short g.K.Sink.wrote g.K.Sink.faults c.args.sink.now c.put.new.sink (codes "bins [") (bins ++ (codes "] funs [" ++ (funs ++ codes "]"))) c.in_err-put.field-0.0 c.from_residual.result
    c.from_residual.ensures.0 c.in_err-put.ensures

pub returns-in_err-put_bins : goal.returns-in_err-put_bins
returns-in_err-put_bins g c =
    let bins : List ℕ = divided (map bin_text (map (bin_of c.args.mem.now) c.args.bins.now)) in
    let funs : List ℕ = divided (map (fun_text c.args.names.now) (map (fun_of c.args.mem.now) (by_name c.args.mem.now c.args.names.now c.args.funs.now))) in
    let one = come-first g.K.Sink.wrote g.K.Sink.faults c.args.sink.now c.put.new.sink (codes "bins [") (bins ++ (codes "] funs [" ++ (funs ++ codes "]"))) c.in_ok-put.ensures.all
    c.in_ok-put.ensures.told in
    come-short g.K.Sink.wrote g.K.Sink.faults c.args.sink.now c.put.new.sink c.put_bins.new.sink (counts_told c.args.mem.now c.args.names.now c.args.bins.now c.args.funs.now) (codes "bins [") bins
    (codes "] funs [" ++ (funs ++ codes "]")) c.in_err-put_bins.field-0.0 c.from_residual-in_err-put_bins.result c.from_residual-in_err-put_bins.ensures.0 one c.in_err-put_bins.ensures

pub returns-in_err-put-2 : goal.returns-in_err-put-2
returns-in_err-put-2 g c =
    let whole : List ℕ = counts_told c.args.mem.now c.args.names.now c.args.bins.now c.args.funs.now in
    let bins : List ℕ = divided (map bin_text (map (bin_of c.args.mem.now) c.args.bins.now)) in
    let funs : List ℕ = divided (map (fun_text c.args.names.now) (map (fun_of c.args.mem.now) (by_name c.args.mem.now c.args.names.now c.args.funs.now))) in
    let one = come-first g.K.Sink.wrote g.K.Sink.faults c.args.sink.now c.put.new.sink (codes "bins [") (bins ++ (codes "] funs [" ++ (funs ++ codes "]"))) c.in_ok-put.ensures.all
    c.in_ok-put.ensures.told in
    let two = come-more g.K.Sink.wrote g.K.Sink.faults c.args.sink.now c.put.new.sink c.put_bins.new.sink whole (codes "bins [") bins (codes "] funs [" ++ (funs ++ codes "]")) one
    c.in_ok-put_bins.ensures.all c.in_ok-put_bins.ensures.told in
    come-short g.K.Sink.wrote g.K.Sink.faults c.args.sink.now c.put_bins.new.sink c.put-2.new.sink whole (codes "bins [" ++ bins) (codes "] funs [") (funs ++ codes "]") c.in_err-put-2.field-0.0
    c.from_residual-in_err-put-2.result c.from_residual-in_err-put-2.ensures.0 two c.in_err-put-2.ensures

pub returns-in_err-put_funs : goal.returns-in_err-put_funs
returns-in_err-put_funs g c =
    let whole : List ℕ = counts_told c.args.mem.now c.args.names.now c.args.bins.now c.args.funs.now in
    let bins : List ℕ = divided (map bin_text (map (bin_of c.args.mem.now) c.args.bins.now)) in
    let funs : List ℕ = divided (map (fun_text c.args.names.now) (map (fun_of c.args.mem.now) (by_name c.args.mem.now c.args.names.now c.args.funs.now))) in
    let one = come-first g.K.Sink.wrote g.K.Sink.faults c.args.sink.now c.put.new.sink (codes "bins [") (bins ++ (codes "] funs [" ++ (funs ++ codes "]"))) c.in_ok-put.ensures.all
    c.in_ok-put.ensures.told in
    let two = come-more g.K.Sink.wrote g.K.Sink.faults c.args.sink.now c.put.new.sink c.put_bins.new.sink whole (codes "bins [") bins (codes "] funs [" ++ (funs ++ codes "]")) one
    c.in_ok-put_bins.ensures.all c.in_ok-put_bins.ensures.told in
    let three = come-more g.K.Sink.wrote g.K.Sink.faults c.args.sink.now c.put_bins.new.sink c.put-2.new.sink whole (codes "bins [" ++ bins) (codes "] funs [") (funs ++ codes "]") two
    c.in_ok-put-2.ensures.all c.in_ok-put-2.ensures.told in
    come-short g.K.Sink.wrote g.K.Sink.faults c.args.sink.now c.put-2.new.sink c.put_funs.new.sink whole ((codes "bins [" ++ bins) ++ codes "] funs [") funs (codes "]") c.in_err-put_funs.field-0.0
    c.from_residual-in_err-put_funs.result c.from_residual-in_err-put_funs.ensures.0 three c.in_err-put_funs.ensures

pub returns : goal.returns
returns g c =
    let whole : List ℕ = counts_told c.args.mem.now c.args.names.now c.args.bins.now c.args.funs.now in
    let bins : List ℕ = divided (map bin_text (map (bin_of c.args.mem.now) c.args.bins.now)) in
    let funs : List ℕ = divided (map (fun_text c.args.names.now) (map (fun_of c.args.mem.now) (by_name c.args.mem.now c.args.names.now c.args.funs.now))) in
    let one = come-first g.K.Sink.wrote g.K.Sink.faults c.args.sink.now c.put.new.sink (codes "bins [") (bins ++ (codes "] funs [" ++ (funs ++ codes "]"))) c.in_ok-put.ensures.all
    c.in_ok-put.ensures.told in
    let two = come-more g.K.Sink.wrote g.K.Sink.faults c.args.sink.now c.put.new.sink c.put_bins.new.sink whole (codes "bins [") bins (codes "] funs [" ++ (funs ++ codes "]")) one
    c.in_ok-put_bins.ensures.all c.in_ok-put_bins.ensures.told in
    let three = come-more g.K.Sink.wrote g.K.Sink.faults c.args.sink.now c.put_bins.new.sink c.put-2.new.sink whole (codes "bins [" ++ bins) (codes "] funs [") (funs ++ codes "]") two
    c.in_ok-put-2.ensures.all c.in_ok-put-2.ensures.told in
    let four = come-more g.K.Sink.wrote g.K.Sink.faults c.args.sink.now c.put-2.new.sink c.put_funs.new.sink whole ((codes "bins [" ++ bins) ++ codes "] funs [") funs (codes "]") three
    c.in_ok-put_funs.ensures.all c.in_ok-put_funs.ensures.told in
    written-as g.K.Sink.wrote g.K.Sink.faults c.args.sink.now c.put-3.new.sink ((((codes "bins [" ++ bins) ++ codes "] funs [") ++ funs) ++ codes "]") whole c.put-3.result (sym four.parts)
    (written-after g.K.Sink.wrote g.K.Sink.faults c.args.sink.now c.put_funs.new.sink c.put-3.new.sink (((codes "bins [" ++ bins) ++ codes "] funs [") ++ funs) (codes "]") c.put-3.result four.grew
    four.told c.put-3.ensures)
