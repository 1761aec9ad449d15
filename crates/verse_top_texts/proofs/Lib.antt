mod Joined
mod KeyLaws
