use borrow.Author.Rules.{rules}
use Rattle.joining.proofs.Behind.{reads-behind}
use Rattle.joining.proofs.read.read_behind.Goals as goal

-- src/read.rt:17:18
pub overflow_mul-at : goal.overflow_mul-at
overflow_mul-at c = search rules

-- src/read.rt:17:14
pub overflow_add-at : goal.overflow_add-at
overflow_add-at c = search rules

-- src/read.rt:18:36
pub offset_bounds-names-n : goal.offset_bounds-names-n
offset_bounds-names-n c = search rules

-- src/read.rt:18:36
pub slice_bounds-read-count : goal.slice_bounds-read-count
slice_bounds-read-count c = search rules

-- src/read.rt:18:36
pub slice_bounds-read-start : goal.slice_bounds-read-start
slice_bounds-read-start c = search rules

-- src/read.rt:18:36
pub slice_bounds-read-end : goal.slice_bounds-read-end
slice_bounds-read-end c = search rules

-- src/read.rt:18:53
pub offset_bounds-entries-at : goal.offset_bounds-entries-at
offset_bounds-entries-at c = search rules

-- src/read.rt:18:53
pub slice_bounds-read-count-2 : goal.slice_bounds-read-count-2
slice_bounds-read-count-2 c = search rules

-- src/read.rt:18:53
pub slice_bounds-read-start-2 : goal.slice_bounds-read-start-2
slice_bounds-read-start-2 c = search rules

-- src/read.rt:18:53
pub slice_bounds-read-end-2 : goal.slice_bounds-read-end-2
slice_bounds-read-end-2 c = search rules

-- src/read.rt:18:5
pub read-requires : goal.read-requires
read-requires c = search rules

-- src/read.rt:13:1
pub shape_of-names : goal.shape_of-names
shape_of-names c = search rules

-- src/read.rt:13:1
pub shape_of-entries : goal.shape_of-entries
shape_of-entries c = search rules

-- src/read.rt:13:1
pub returns : goal.returns
returns c =
    reads-behind c.args.bytes.now c.args.n c.args.names.now c.args.entries.now c.requires
    c.read.result c.read.new.records _ c.read.ensures
