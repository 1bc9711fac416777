-- `gap::pairs::widest` meets its contract. Assumes nothing.
use mathlib.Core.Path.{◌≡◌, sym, ◌∙◌}
use native.Mathlib.Omega.{arith}
use Rattle.area.specs.Numbers.{stored}
use Rattle.peaks.specs.Stored.{as_it_is}
use Rattle.gap.specs.SizeLaws.{all_sizes, gap_found, heights, most_size, tie_found}
use Rattle.gap.proofs.pairs.widest.Goals as goal

pub next-left-requires : goal.next-left-requires
next-left-requires c =
    let d = c.requires in
    let w = c.to_sizes-tops.ensures in
    let most : stored c.to_sizes-tops.result.most ≡ c.to_sizes-tops.result.most = as_it_is (omega arith) in
    (all_sizes d w.written, most_size d (most ∙ w.most_value))

pub returns-then-left-ne1 : goal.returns-then-left-ne1
returns-then-left-ne1 c =
    let w = c.to_sizes-tops.ensures in
    let most : stored c.to_sizes-tops.result.most ≡ c.to_sizes-tops.result.most = as_it_is (omega arith) in
    sym (tie_found c.requires w.written (most ∙ w.most_value) c.next-left.ensures.count_value c.if-left-ne1.true)

pub less_both-requires : goal.less_both-requires
less_both-requires c =
    let w = c.to_sizes-tops.ensures in
    let most : stored c.to_sizes-tops.result.most ≡ c.to_sizes-tops.result.most = as_it_is (omega arith) in
    let lower : stored c.to_sizes-tops.result.lower ≡ c.to_sizes-tops.result.lower = as_it_is (omega arith) in
    let second : stored c.next-left.result.second ≡ c.next-left.result.second = as_it_is (omega arith) in
    heights c.requires w.written (most ∙ w.most_value) c.next-left.ensures.count_value c.if-left-ne1.false
    (second ∙ c.next-left.ensures.second_value) (lower ∙ w.lower_value)

pub returns : goal.returns
returns c =
    let w = c.to_sizes-tops.ensures in
    let most : stored c.to_sizes-tops.result.most ≡ c.to_sizes-tops.result.most = as_it_is (omega arith) in
    let lower : stored c.to_sizes-tops.result.lower ≡ c.to_sizes-tops.result.lower = as_it_is (omega arith) in
    let second : stored c.next-left.result.second ≡ c.next-left.result.second = as_it_is (omega arith) in
    gap_found c.requires w.written (most ∙ w.most_value) c.next-left.ensures.count_value c.if-left-ne1.false
    (second ∙ c.next-left.ensures.second_value) (lower ∙ w.lower_value) c.less_both.ensures
