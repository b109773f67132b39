-- The definitions of this crate and of those below that its proofs cite, passed on from one place. Declares nothing.
pub use Rattle.mls_errorplane.specs.DirtyLists.{dropped}
pub use Rattle.mls_errorplane.specs.declared.error_plane.Outcome.TheVariants.{Finished}
pub use Rattle.mls_geom.specs.declared.rect.RectFault.TheVariants.{Empty, Outside}
pub use Rattle.mls_session.specs.Bounds.{dumped_rect, moved_line, or_none}
unfoldable pub use Rattle.mls_session.specs.Bounds.{moved_rect}
pub use Rattle.mls_session.specs.Changes.{dumped, erased, layout_leaves_world, world_has}
unfoldable pub use Rattle.mls_session.specs.Changes.{leaves_world}
pub use Rattle.mls_session.specs.Designs.{AreAtHome, CanDump, Design, HasRightMarks, KnowsRight, designed_of, drawn_of, known_after, leaves_marks}
pub use Rattle.mls_session.specs.Inner.{ArePlanned, CanChange, Counts, FitsQuota, IsCounted, IsListing, IsSection, Journal, KeepsDrawn, ListsChange, ListsPlane, ListsPlanes, ReadsAtMost, after_command, after_note, after_steps, bounds_placed, caught_up_reply, changed, changed_layout, done_steps, finished_steps, most_checks, painted_over, placed_bounds, planned_pieces, steps_of}
pub use Rattle.mls_session.specs.JournalCopies.{JournalCopy}
pub use Rattle.mls_session.specs.Journals.{ChecksOnce, ChecksTimes, Commands, Does, Finishes, IsLegal, Kept, Run, RunsOut, Saves, StepsOnce, StepsUpTo, alone_run, alone_run_with, is_full, is_journalled, is_memory, is_refusal, kept_at_opening, noted, run_from, said_next, said_of}
pub use Rattle.mls_session.specs.Looks.{IsRect, Looks, MarksReadBack, errors_of, status_of, tile_counts, violations_of, why_in}
unfoldable pub use Rattle.mls_session.specs.Looks.{ErrorsReadBack, look_of}
pub use Rattle.mls_session.specs.Own.{Config, Designed, Drawn, are_types, blank, box_step, cell_at, change_step, check_in, count_step, dirty_after, dump_step, dumped_in, dumped_layout, edit_step, erase_step, erased_layout, exceeds_listed, exceeds_quota, exceeds_tiles, get_in, get_step, layout_of, opening, paint_on, paint_step, repaint_step, save_step, shows_type, what_step, why_step, with_plane}
unfoldable pub use Rattle.mls_session.specs.Own.{total_marks, types_in}
pub use Rattle.mls_session.specs.OwnSteps.{DesignRunsOut, DesignSteps, HaveOwnCells, OwnState, Terms, beginning, catch_up_step, caught_up, checked_times, checks, ending, next_checking}
unfoldable pub use Rattle.mls_session.specs.OwnSteps.{checked, design_step, own_check, own_step}
pub use Rattle.mls_session.specs.Quotas.{IsQuota, most_quota, plane_reserve}
pub use Rattle.mls_session.specs.Saving.{OnSaved, SavesText}
pub use Rattle.mls_session.specs.Sessions.{IsReady, Session, kept_of, state_of}
pub use Rattle.mls_session.specs.Setups.{config_of, terms_of}
pub use Rattle.mls_session.specs.Common.{AddsOwner, AddsOwners, AgreeOutside, AreInArea, AreRightIn, AreSearched, AreStrips, CaughtUp, CellUse, ChangesAmong, ChangesOnly, CheckContext, Checked, Checking, EdgeRule, ErrorPlane, Extends, Finding, FitsWorkspace, HasCaughtUp, HasFinished, HasFlatPlane, HasLayout, HasPlane, HasPlanes, HasStepped, HasStrips, HoldsOwnTypes, IfTooMany, IsChecked, IsDirtyList, IsFound, IsOwner, IsPlanFor, IsPlane, IsRectangleIn, LaidTile, Layout, Library, ListTouched, NamedCell, Outcome, Picture, Piece, Plan, Pool, ReadsAs, Rect, RectFault, RemovesOwners, Scratch, ShowOwnTypes, ShowsMarks, ShowsOwnTypes, StandsApart, Stepped, Steps, Tech, Tile, UnlessDone, UnlessFinished, Unlisted, Uses, area_of, areas_in, block_at, cell_layout, cell_layouts, cell_shown, check_step, checking_of, clipped, columns, common, dirtied, empty_layout, empty_picture, exceeds, flat_layout, flat_plane, has_paint, header_lines, holds, is_marked, kind_or_space, layer_lines, layout_in, marked_line_count, marked_text, marks_picture, most_tiles, most_uses, no_plan, no_squares, nothing_read, opening_checking, origin, over, overlaid, painted, painted_bounds, picture_at, picture_in, plan_of, plane_of_type, room_of, rows, saved_line_count, saved_text, shown, shows, squares_in, strips_on, unreserved, use_layout, uses_layout, world}
unfoldable pub use Rattle.mls_session.specs.Common.{coordinate_of, flattened, is_outside, kinds_in, layers_lines, marked_count, moved_picture, rect_of, set_of, text_of, tile_count, tiles_of, union}
pub use Rattle.mls_session.specs.declared.change.Change.{Change}
pub use Rattle.mls_session.specs.declared.command.Command.{Command}
pub use Rattle.mls_session.specs.declared.command.Command.TheVariants.{Box, CatchUp}
pub use Rattle.mls_session.specs.declared.executed.Executed.{Executed}
pub use Rattle.mls_session.specs.declared.journal.Entry.{Entry}
pub use Rattle.mls_session.specs.declared.journal.Said.{Said}
pub use Rattle.mls_session.specs.declared.look.Look.{Look}
pub use Rattle.mls_session.specs.declared.look.Look.TheVariants.{Marks}
pub use Rattle.mls_session.specs.declared.look.Looked.{Looked}
pub use Rattle.mls_session.specs.declared.look.Looked.TheVariants.{Errors}
pub use Rattle.mls_session.specs.declared.look.Status.{Status}
pub use Rattle.mls_session.specs.declared.refusal.Refusal.{Refusal}
pub use Rattle.mls_session.specs.declared.refusal.Refusal.TheVariants.{CellOutside, EmptyBox, JournalFull, NoBox, OutsideWorld, Quota, TooManyUses, UnknownCell, UnknownType}
pub use Rattle.mls_session.specs.declared.reply.Reply.{Reply}
pub use Rattle.mls_session.specs.declared.reply.Reply.TheVariants.{Kinds}
pub use Rattle.mls_session.specs.declared.setup.Setup.{Setup}
