use Rattle.std.proofs.Common.{◌≡◌, ◌<◌, map, length, get_or, ap, ◌∙◌, arith}
use Rattle.verse_tree.specs.Numbering.{item_numbered, item_nodes}
use Rattle.verse_tree.specs.ItemView.{item_of}
use Rattle.verse_join.proofs.joining.join_files.Goals as goal
use Rattle.verse_join.specs.Joining.{file_items}
use Rattle.verse_join.proofs.Files.{group_fits, more_nodes, more_done}

pub number_items-requires : goal.number_items-requires
number_items-requires c =
    let all = c.args.files.items in
    let file = c.file-item.result in
    let is : file ≡ get_or all c.files.file-index file =
    c.file-item.is ∙ ap (λ l. get_or l c.files.file-index file) c.as_slice-file-items.ensures.value in
    let length_is : length c.as_slice-file-items.result.now ≡ length all = ap length c.as_slice-file-items.ensures.value in
    let within : c.files.file-index < length all = omega arith in
    let given : map item_of c.as_slice.result.now ≡ file_items file = ap (map item_of) c.as_slice.ensures in
    record {
      fits = group_fits file_items all c.files.file-index file (map item_of c.as_slice.result.now) is within given item_nodes
          c.files.at _ 4294967295 c.files.invariant.count (omega arith);
    }

pub files-preserved : goal.files-preserved
files-preserved c =
    let all = c.args.files.items in
    let file = c.file-item.result in
    let is : file ≡ get_or all c.files.file-index file =
    c.file-item.is ∙ ap (λ l. get_or l c.files.file-index file) c.as_slice-file-items.ensures.value in
    let length_is : length c.as_slice-file-items.result.now ≡ length all = ap length c.as_slice-file-items.ensures.value in
    let within : c.files.file-index < length all = omega arith in
    let given : map item_of c.as_slice.result.now ≡ file_items file = ap (map item_of) c.as_slice.ensures in
    record {
      done = more_done file_items all c.files.file-index file (map item_of c.as_slice.result.now) is within given item_nodes c.files.at
          item_of item_numbered c.files.items c.append.new.self c.in_ok-file.file c.in_ok-file.behind c.in_ok-append.ensures
          c.in_ok-file.ensures.numbered c.in_ok-file.ensures.behind ∙ c.files.invariant.done;
      count = more_nodes file_items all c.files.file-index file (map item_of c.as_slice.result.now) is within given item_nodes c.files.at
          c.in_ok-file.behind c.in_ok-file.ensures.behind ∙ c.files.invariant.count;
    }
